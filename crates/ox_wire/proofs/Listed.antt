-- Followers and entries in an order are written as any list of them.
use Rattle.std.proofs.Common.{◌≡◌, ℕ, ◌^◌, true, ltb, List, ◌++◌, length, refl, sym, ap}
use Rattle.std.specs.Prelude.{◌&&◌, ◌==◌, nat_le}
use Rattle.std.proofs.lemmas.Bool.{and_parts, and_from}
use Rattle.ox_types.specs.declared.log.Entry.{Entry}
use Rattle.ox_bytes.specs.Numbers.{be32}
use Rattle.ox_bytes.specs.Fields.{list}
use Rattle.ox_bytes.specs.LogForms.{term, entry_offset, entry_time, entry_body, entry, term_table}
use Rattle.ox_bytes.specs.Lists.{is_course}
use Rattle.ox_bytes.specs.ListLaws.{course_text-same, course_all}
use Rattle.ox_quorum.specs.Forms.{node_from}
use Rattle.ox_wire.specs.declared.body.Follower.{Follower}
use Rattle.ox_wire.specs.BodyForms.{follower, follower_from, followers_course, followers, entry_behind, entries_course, entries_number, entries_from}

pub followers_text : (fs : List Follower) → (list follower).text fs ≡ followers.text fs
unfolding follower follower_from node_from
followers_text fs = sym (ap (λ (l : List ℕ). be32 (length fs) ++ l) (course_text-same followers_course follower.text (λ s x. refl) 0 fs))

follower_lawful : (least : ℕ) (f : Follower) → (follower_from least).is_lawful f ≡ true → follower.is_lawful f ≡ true
unfolding follower follower_from node_from
follower_lawful least f h =
    let both = and_parts ((node_from least).is_lawful f.node) (term_table.is_lawful f.table) h in
    and_from _ _ (and_parts (ltb f.node (2 ^ 32)) (nat_le least f.node) both.0).0 both.1

pub followers_lawful : (fs : List Follower) → followers.is_lawful fs ≡ true → (list follower).is_lawful fs ≡ true
followers_lawful fs h =
    let both = and_parts (ltb (length fs) (2 ^ 32)) (is_course followers_course 0 fs) h in
    and_from _ _ both.0 (course_all followers_course follower.is_lawful follower_lawful 0 fs both.1)

pub entries_text : (top from : ℕ) (es : List Entry) → (list entry).text es ≡ (entries_from top from).text es
unfolding entry entry_behind entries_number
entries_text top from es = sym (ap (λ (l : List ℕ). be32 (length es) ++ l) (course_text-same (entries_course top) entry.text (λ s x. refl) (0, from) es))

entry_lawful : (top : ℕ) (next : ℕ × ℕ) (e : Entry) → (entry_behind top next).is_lawful e ≡ true → entry.is_lawful e ≡ true
unfolding entry entry_behind
entry_lawful top next e h =
    let one = and_parts ((term.is_lawful e.term && nat_le e.term top) && nat_le next.0 e.term) ((entry_offset.is_lawful e.offset && (e.offset == next.1)) && (entry_time.is_lawful e.time && entry_body.is_lawful e.body)) h in
    let terms = and_parts (term.is_lawful e.term && nat_le e.term top) (nat_le next.0 e.term) one.0 in
    let two = and_parts (entry_offset.is_lawful e.offset && (e.offset == next.1)) (entry_time.is_lawful e.time && entry_body.is_lawful e.body) one.1 in
    and_from _ _ (and_parts (term.is_lawful e.term) (nat_le e.term top) terms.0).0
    (and_from _ _ (and_parts (entry_offset.is_lawful e.offset) (e.offset == next.1) two.0).0 two.1)

pub entries_lawful : (top from : ℕ) (es : List Entry) → (entries_from top from).is_lawful es ≡ true → (list entry).is_lawful es ≡ true
unfolding entries_number
entries_lawful top from es h =
    let both = and_parts (ltb (length es) (2 ^ 32) && nat_le (length es) 64) (is_course (entries_course top) (0, from) es) h in
    and_from _ _ (and_parts (ltb (length es) (2 ^ 32)) (nat_le (length es) 64) both.0).0 (course_all (entries_course top) entry.is_lawful (entry_lawful top) (0, from) es both.1)
