-- A message is lawful where its fields keep the rules that join them.
use Rattle.std.proofs.Common.{◌≡◌, ℕ, ◌+◌, ◌<◌, ◌≤◌, ◌^◌, true, List, [], ◌∷◌, length, map, refl, sym, subst, arith}
use Rattle.std.specs.Prelude.{◌&&◌, ◌==◌, nat_le, nat_lt, IsTrue}
use Rattle.std.specs.List.{list_all}
use Rattle.std.proofs.lemmas.Bool.{and_parts, and_from, leb-true, le-leb, ltb-true, lt-ltb, eqb-true}
use Rattle.ox_types.specs.declared.log.Entry.{Entry}
use Rattle.ox_types.specs.Durable.{may_follow}
use Rattle.ox_types.specs.Limits.{term_limit, count_limit}
use Rattle.ox_bytes.specs.Fields.{number32}
use Rattle.ox_bytes.specs.LogForms.{term, count, entry_offset, entry_time, entry_body, entry, term_table}
use Rattle.ox_bytes.specs.Lists.{is_course}
use Rattle.ox_quorum.specs.declared.config.Config.{Config}
use Rattle.ox_quorum.specs.Forms.{config, node_from}
use Rattle.ox_wire.specs.declared.body.Follower.{Follower}
use Rattle.ox_wire.specs.declared.body.Body.TheVariants as body_is
use Rattle.ox_wire.specs.BodyForms.{follower, follower_from, followers_course, followers, entry_behind, entries_course, entries_number, entries_from, append, body}
use Rattle.ox_wire.specs.Rules.{IsAppend, IsBecomeLeader}
use Rattle.ox_wire.proofs.Listed.{followers_lawful, entries_lawful}
use Rattle.ox_wire.proofs.Rising.{RisesFrom, rising, rises_of}

-- a bound as a test, and back
pub bounded : (most n : ℕ) → nat_lt n (2 ^ 64) && nat_le n most ≡ true → n ≤ most
bounded most n h = leb-true n most (and_parts (nat_lt n (2 ^ 64)) (nat_le n most) h).1

pub within : (most n : ℕ) → nat_lt most (2 ^ 64) ≡ true → n ≤ most → nat_lt n (2 ^ 64) && nat_le n most ≡ true
within most n small h =
    let top : most < 18446744073709551616 = ltb-true most 18446744073709551616 small in
    let lt : n < 18446744073709551616 = omega arith in
    and_from _ _ (lt-ltb n 18446744073709551616 lt) (le-leb n most h)

follow_is : (top least next : ℕ) (es : List Entry) → is_course (entries_course top) (least, next) es ≡ true → may_follow top least next es ≡ true
unfolding entry_behind
follow_is top least next [] h = refl
follow_is top least next (e ∷ es) h =
    let both = and_parts ((entry_behind top (least, next)).is_lawful e) (is_course (entries_course top) (e.term, e.offset + 1) es) h in
    let one = and_parts ((term.is_lawful e.term && nat_le e.term top) && nat_le least e.term) ((entry_offset.is_lawful e.offset && (e.offset == next)) && (entry_time.is_lawful e.time && entry_body.is_lawful e.body)) both.0 in
    let terms = and_parts (term.is_lawful e.term && nat_le e.term top) (nat_le least e.term) one.0 in
    let two = and_parts (entry_offset.is_lawful e.offset && (e.offset == next)) (entry_time.is_lawful e.time && entry_body.is_lawful e.body) one.1 in
    let there = (and_parts (entry_offset.is_lawful e.offset) (e.offset == next) two.0).1 in
    let same : e.offset ≡ next = eqb-true e.offset next there in
    let others : may_follow top e.term (next + 1) es ≡ true = subst (λ (n : ℕ). may_follow top e.term (n + 1) es ≡ true) same (follow_is top e.term (e.offset + 1) es both.1) in
    and_from _ _ (and_from _ _ (and_from _ _ there terms.1) (and_parts (term.is_lawful e.term) (nat_le e.term top) terms.0).1) others

follow_from : (top least next : ℕ) (es : List Entry) → list_all entry.is_lawful es ≡ true → may_follow top least next es ≡ true → is_course (entries_course top) (least, next) es ≡ true
unfolding entry entry_behind
follow_from top least next [] each h = refl
follow_from top least next (e ∷ es) each h =
    let lawful = and_parts (entry.is_lawful e) (list_all entry.is_lawful es) each in
    let fields = and_parts (term.is_lawful e.term) (entry_offset.is_lawful e.offset && (entry_time.is_lawful e.time && entry_body.is_lawful e.body)) lawful.0 in
    let more = and_parts (entry_offset.is_lawful e.offset) (entry_time.is_lawful e.time && entry_body.is_lawful e.body) fields.1 in
    let both = and_parts (((e.offset == next) && nat_le least e.term) && nat_le e.term top) (may_follow top e.term (next + 1) es) h in
    let tests = and_parts ((e.offset == next) && nat_le least e.term) (nat_le e.term top) both.0 in
    let first = and_parts (e.offset == next) (nat_le least e.term) tests.0 in
    let same : e.offset ≡ next = eqb-true e.offset next first.0 in
    let others : is_course (entries_course top) (e.term, e.offset + 1) es ≡ true = follow_from top e.term (e.offset + 1) es lawful.1 (subst (λ (n : ℕ). may_follow top e.term (n + 1) es ≡ true) (sym same) both.1) in
    and_from _ _ (and_from _ _ (and_from _ _ (and_from _ _ fields.0 tests.1) first.1) (and_from _ _ (and_from _ _ more.0 first.0) more.1)) others

pub append_is : (t from c : ℕ) (es : List Entry) → IsTrue (body.is_lawful (body_is.Append t from c es)) → IsAppend t from c es
unfolding body append entries_number
append_is t from c es h =
    let one = and_parts (term.is_lawful t) (count.is_lawful from && (count.is_lawful c && (entries_from t from).is_lawful es)) h in
    let two = and_parts (count.is_lawful from) (count.is_lawful c && (entries_from t from).is_lawful es) one.1 in
    let three = and_parts (count.is_lawful c) ((entries_from t from).is_lawful es) two.1 in
    let items = and_parts (nat_lt (length es) (2 ^ 32) && nat_le (length es) 64) (is_course (entries_course t) (0, from) es) three.1 in
    let listed = and_parts (nat_lt (length es) (2 ^ 32)) (list_all entry.is_lawful es) (entries_lawful t from es three.1) in
    record {
      small_term = bounded term_limit t one.0;
      small_from = bounded count_limit from two.0;
      small_commit = bounded count_limit c three.0;
      few = leb-true (length es) 64 (and_parts (nat_lt (length es) (2 ^ 32)) (nat_le (length es) 64) items.0).1;
      each = listed.1;
      in_order = follow_is t 0 from es items.1;
    }

pub append_from : (t from c : ℕ) (es : List Entry) → IsAppend t from c es → IsTrue (body.is_lawful (body_is.Append t from c es))
unfolding body append entries_number
append_from t from c es a =
    let few = a.few in
    let lt : length es < 4294967296 = omega (arith, few) in
    let number = and_from (nat_lt (length es) (2 ^ 32)) (nat_le (length es) 64) (lt-ltb (length es) 4294967296 lt) (le-leb (length es) 64 few) in
    and_from _ _ (within term_limit t refl a.small_term) (and_from _ _ (within count_limit from refl a.small_from) (and_from _ _ (within count_limit c refl a.small_commit) (and_from _ _ number (follow_from t 0 from es a.each a.in_order))))

abbrev nodes_of : List Follower → List ℕ
nodes_of fs = map (λ f. f.node) fs

rises_from : (least : ℕ) (fs : List Follower) → is_course followers_course least fs ≡ true → RisesFrom least (nodes_of fs)
unfolding follower_from node_from
rises_from least [] h = tt
rises_from least (f ∷ fs) h =
    let both = and_parts ((follower_from least).is_lawful f) (is_course followers_course (f.node + 1) fs) h in
    let node = and_parts ((node_from least).is_lawful f.node) (term_table.is_lawful f.table) both.0 in
    (leb-true least f.node (and_parts (nat_lt f.node (2 ^ 32)) (nat_le least f.node) node.0).1, rises_from (f.node + 1) fs both.1)

course_from : (least : ℕ) (fs : List Follower) → list_all follower.is_lawful fs ≡ true → RisesFrom least (nodes_of fs) → is_course followers_course least fs ≡ true
unfolding follower follower_from node_from
course_from least [] each rises = refl
course_from least (f ∷ fs) each rises =
    let lawful = and_parts (follower.is_lawful f) (list_all follower.is_lawful fs) each in
    let fields = and_parts (number32.is_lawful f.node) (term_table.is_lawful f.table) lawful.0 in
    and_from _ _ (and_from _ _ (and_from _ _ fields.0 (le-leb least f.node rises.0)) fields.1) (course_from (f.node + 1) fs lawful.1 rises.1)

pub become_leader_is : (t : ℕ) (c : Config) (fs : List Follower) → IsTrue (body.is_lawful (body_is.BecomeLeader t c fs)) → IsBecomeLeader t c fs
unfolding body
become_leader_is t c fs h =
    let one = and_parts (term.is_lawful t) (config.is_lawful c && followers.is_lawful fs) h in
    let two = and_parts (config.is_lawful c) (followers.is_lawful fs) one.1 in
    let items = and_parts (nat_lt (length fs) (2 ^ 32)) (is_course followers_course 0 fs) two.1 in
    let listed = and_parts (nat_lt (length fs) (2 ^ 32)) (list_all follower.is_lawful fs) (followers_lawful fs two.1) in
    record {
      small_term = bounded term_limit t one.0;
      lawful_config = two.0;
      countable = ltb-true (length fs) 4294967296 items.0;
      each = listed.1;
      rising = rising 0 (nodes_of fs) (rises_from 0 fs items.1);
    }

pub become_leader_from : (t : ℕ) (c : Config) (fs : List Follower) → IsBecomeLeader t c fs → IsTrue (body.is_lawful (body_is.BecomeLeader t c fs))
unfolding body
become_leader_from t c fs b =
    and_from _ _ (within term_limit t refl b.small_term) (and_from _ _ b.lawful_config (and_from _ _ (lt-ltb (length fs) 4294967296 b.countable) (course_from 0 fs b.each (rises_of 0 (nodes_of fs) (λ some. omega arith) b.rising))))
