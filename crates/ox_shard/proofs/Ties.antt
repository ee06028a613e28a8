-- What ties the parts of a shard holds again behind an operation.
use Rattle.std.proofs.Common.{◌≡◌, ◌∙◌, ℕ, Bool, true, false, List, [], ◌∷◌, ◌++◌, Option, Some, None, All, refl, sym, ap, subst}
use Rattle.std.specs.Prelude.{◌||◌, ◌&&◌, not, option_to_list}
use Rattle.std.specs.Str.{bytes_eq}
use Rattle.std.proofs.lemmas.List.Elements.{All-filter}
use Rattle.ox_table.specs.Table.{IsRising}
use Rattle.ox_order.specs.declared.range.KeyRange.{KeyRange}
use Rattle.ox_order.specs.Range.{in_range}
use Rattle.ox_ops.specs.declared.write.Put.{Put}
use Rattle.ox_ops.specs.declared.write.Delete.{Delete}
use Rattle.ox_ops.specs.declared.reply.OpReply.{OpReply}
use Rattle.ox_ops.specs.declared.reply.OpReply.TheVariants as reply
use Rattle.ox_ops.specs.declared.answer.Record.{Record}
use Rattle.ox_ops.specs.State.{ShardState, has_key, record_of, without_key, with_record}
use Rattle.ox_ops.specs.Operation.{Effect, put_record, put_on, delete_on, range_on}
use Rattle.ox_ops.specs.Apply.{and_then, some_notice}
use Rattle.ox_session.specs.Members.{sessions_of, members_in}
use Rattle.ox_puts.specs.declared.change.Change.{Change}
use Rattle.ox_puts.specs.Records.{RecordsState, IsOf, IsLive, keyed, replaced_by, deleted_by}
use Rattle.ox_puts.specs.Given.{put_given}
use Rattle.ox_puts.specs.GivenLaws.{put_on-given}
use Rattle.ox_puts.specs.Changes.{effect}
use Rattle.ox_index.specs.declared.added.Added.{Added}
use Rattle.ox_index.specs.Pairs.{has_added}
use Rattle.ox_shard.specs.declared.done.Done.{Done}
use Rattle.ox_shard.specs.declared.lists.Lists.{Lists}
use Rattle.ox_shard.specs.declared.parts.Parts.{Parts}
use Rattle.ox_shard.specs.Done.{applied_of}
use Rattle.ox_shard.specs.Lists.{all_added, added_by, left_by_all, stored_key, joined_by, stored_entries, IsOpenFor, HasEntriesOf, IsListed}
use Rattle.ox_shard.specs.Parts.{state_of, HasDistinctEntries, IsTied, IsBeside}
use Rattle.ox_shard.proofs.Keys.{has-cons}
use Rattle.ox_shard.proofs.Leaving.{going, staying, left, dropped, one_of}
use Rattle.ox_shard.proofs.Puts.{StoresAs, Stores, put-stores, RemovesAs, Removes, delete-removes, range-removes}
use Rattle.ox_shard.proofs.Entering.{joined, entered, All-with}

-- the shard has the records of its parts
pub own_records : (p : Parts) → IsOf (state_of p) p.records
own_records p = record { records = refl; next_version = refl }

-- its put is the one with what its records were charged
pub own_put : (p : Parts) → IsTied p → (live : Bool) (x : Put) → IsLive live x.session (sessions_of p.lists.sessions) → put_on (state_of p) x ≡ put_given (state_of p) p.records.other live x
own_put p tied live x is = put_on-given (state_of p) p.records.other live x tied.charged is

-- a change of the records is what the operation makes of the shard
pub made-is : (before after : Parts) (old new : Done) (change : Change) (e : Effect) → IsBeside before after → e ≡ effect (state_of before) after.records change
    → new ≡ record { replies = old.replies ++ change.reply ∷ []; notices = old.notices ++ some_notice change.notice }
    → applied_of (state_of after) new ≡ and_then (applied_of (state_of before) old) e
made-is before after old new change e beside h n = rw (n, h, beside.time, beside.sessions, beside.notices) refl

-- the records of a key are gone from the lists
module _ (lists left' : Lists) (rs gone : List Record) (rising : IsRising (keyed rs)) (listed : IsListed lists rs)
    (members : (q : ℕ) → members_in q left'.sessions ≡ left_by_all q gone (members_in q lists.sessions))
    (entries : (q : Added) → has_added q left'.index ≡ (not (has_added q (all_added gone)) && has_added q lists.index))
  where
    -- those whose keys pass a test
    pub listed-staying : (t : List ℕ → Bool) → gone ≡ going t rs → IsListed left' (staying t rs)
    listed-staying t is = record {
      members = λ q. members q ∙ (λ i. left_by_all q (is i) (listed.members q i)) ∙ left t q rs rising;
      entries = λ q. entries q ∙ (λ i. not (has_added q (all_added (is i))) && listed.entries q i) ∙ sym (dropped t q rs);
    }

    -- the one of a key
    pub listed-without : (key : List ℕ) → gone ≡ option_to_list (record_of key rs) → IsListed left' (without_key key rs)
    listed-without key is = listed-staying (λ k. bytes_eq k key) (is ∙ one_of key rs rising)

    -- none
    pub listed-same : gone ≡ [] → IsListed left' rs
    listed-same is = record {
      members = λ q. members q ∙ (λ i. left_by_all q (is i) (listed.members q i));
      entries = λ q. entries q ∙ (λ i. not (has_added q (all_added (is i))) && listed.entries q i);
    }

-- a record that comes
pub listed-with : (lists new : Lists) (rs : List Record) (r : Record) → IsRising (keyed rs) → IsListed lists (without_key r.key rs)
    → ((q : ℕ) → members_in q new.sessions ≡ joined_by q r (Some r.key) (members_in q lists.sessions))
    → ((q : Added) → has_added q new.index ≡ (has_added q (added_by r) || has_added q lists.index))
    → IsListed new (with_record r rs)
listed-with lists new rs r rising listed members entries = record {
  members = λ q. members q ∙ ap (joined_by q r (Some r.key)) (listed.members q) ∙ joined q r rs rising;
  entries = λ q. entries q ∙ ap (λ b. has_added q (added_by r) || b) (listed.entries q) ∙ entered q r rs rising;
}

-- ---- a put

module _ (s : ShardState) (p : Put) where
  -- what a put stored, told by its change
  pub stores : (after : RecordsState) (change : Change) → put_on s p ≡ effect s after change → StoresAs s p after.records (stored_key change.reply)
  stores after change made = subst (Stores s p) made (put-stores s p)

  -- it has no session but an open one
  pub open-for : (records : List Record) (key : Option (List ℕ)) → StoresAs s p records key → IsOpenFor key p.session s.sessions
  open-for records None h = tt
  open-for records (Some key) h = h.0

  module _ (lists left' new : Lists) (after gone : List Record) (rising : IsRising (keyed s.records)) (listed : IsListed lists s.records)
      (left-members : (q : ℕ) → members_in q left'.sessions ≡ left_by_all q gone (members_in q lists.sessions))
      (left-entries : (q : Added) → has_added q left'.index ≡ (not (has_added q (all_added gone)) && has_added q lists.index))
    where
      nothing_joined : ((r : Record) → r.session ≡ p.session → (q : ℕ) → members_in q new.sessions ≡ joined_by q r None (members_in q left'.sessions))
          → ((q : Added) → has_added q new.index ≡ (has_added q (stored_entries p.indexes None) || has_added q left'.index))
          → gone ≡ [] → after ≡ s.records → IsListed new after
      nothing_joined members entries none same =
          let kept = listed-same lists left' s.records gone rising listed left-members left-entries none in
          rw same (record {
            members = λ q. members (put_record s p []) refl q ∙ kept.members q;
            entries = λ q. entries q ∙ kept.entries q;
          })

      -- the lists behind a put
      pub put-listed : (reply : OpReply) → StoresAs s p after (stored_key reply) → gone ≡ replaced_by reply s.records
          → ((r : Record) → r.session ≡ p.session → (q : ℕ) → members_in q new.sessions ≡ joined_by q r (stored_key reply) (members_in q left'.sessions))
          → ((q : Added) → has_added q new.index ≡ (has_added q (stored_entries p.indexes (stored_key reply)) || has_added q left'.index))
          → IsListed new after
      put-listed (reply.Put key meta) stored is members entries =
          let kept = listed-without lists left' s.records gone rising listed left-members left-entries key is in
          rw stored.1 (listed-with left' new s.records (put_record s p key) rising kept (members (put_record s p key) refl) entries)
      put-listed _ stored is members entries = nothing_joined members entries is stored

  -- no record has two equal entries
  pub put-distinct : (after : List Record) (key : Option (List ℕ)) → StoresAs s p after key → HasDistinctEntries (put_record s p []) → All HasDistinctEntries s.records → All HasDistinctEntries after
  put-distinct after None stored one all = rw stored all
  put-distinct after (Some key) stored one all = rw stored.1 (All-with HasDistinctEntries (put_record s p key) s.records one all)

-- ---- a delete

module _ (s : ShardState) (d : Delete) where
  -- what a delete removed, told by its change
  pub removes : (after : RecordsState) (change : Change) → delete_on s d ≡ effect s after change → RemovesAs s d.key after.records change.reply
  removes after change made = subst (Removes s d) made (delete-removes s d)

  -- the lists behind a delete
  pub delete-listed : (lists left' : Lists) (after gone : List Record) → IsRising (keyed s.records) → IsListed lists s.records
      → ((q : ℕ) → members_in q left'.sessions ≡ left_by_all q gone (members_in q lists.sessions))
      → ((q : Added) → has_added q left'.index ≡ (not (has_added q (all_added gone)) && has_added q lists.index))
      → (reply : OpReply) → RemovesAs s d.key after reply → gone ≡ deleted_by reply d.key s.records → IsListed left' after
  delete-listed lists left' after gone rising listed members entries reply.Deleted removed is = rw removed (listed-without lists left' s.records gone rising listed members entries d.key is)
  delete-listed lists left' after gone rising listed members entries _ removed is = rw removed (listed-same lists left' s.records gone rising listed members entries is)

  pub delete-distinct : (after : List Record) (reply : OpReply) → RemovesAs s d.key after reply → All HasDistinctEntries s.records → All HasDistinctEntries after
  delete-distinct after reply.Deleted removed all = rw removed (All-filter (λ r. not (has_key d.key r)) HasDistinctEntries s.records all)
  delete-distinct after _ removed all = rw removed all

-- ---- a range delete

module _ (s : ShardState) (range : KeyRange) where
  pub ranges : (after : RecordsState) (change : Change) → range_on s range ≡ effect s after change → after.records ≡ staying (in_range range) s.records
  ranges after change made = sym (ap (λ (e : Effect). e.state.records) made) ∙ range-removes s range

  pub range-distinct : (after : List Record) → after ≡ staying (in_range range) s.records → All HasDistinctEntries s.records → All HasDistinctEntries after
  range-distinct after is all = rw is (All-filter (λ (r : Record). not (in_range range r.key)) HasDistinctEntries s.records all)

-- ---- a record that a close takes

-- the record of the key is gone from the index
pub entries-without : (rs : List Record) (key : List ℕ) (gone : Option Record) (before after : List Added) → IsRising (keyed rs) → gone ≡ record_of key rs
    → ((q : Added) → has_added q after ≡ (not (has_added q (all_added (option_to_list gone))) && has_added q before)) → HasEntriesOf before rs → HasEntriesOf after (without_key key rs)
entries-without rs key gone before after rising e entries has q =
    let is : option_to_list gone ≡ going (λ k. bytes_eq k key) rs = ap option_to_list e ∙ one_of key rs rising in
    entries q ∙ (λ i. not (has_added q (all_added (is i))) && has q i) ∙ sym (dropped (λ k. bytes_eq k key) q rs)

-- the entries of one record
pub all-of_one : (q : Added) (r : Record) → has_added q (added_by r) ≡ has_added q (all_added (r ∷ []))
all-of_one q r = sym (has-cons q r [] ∙ or_false (has_added q (added_by r)))
  where
    or_false : (b : Bool) → (b || false) ≡ b
    or_false true = refl
    or_false false = refl
