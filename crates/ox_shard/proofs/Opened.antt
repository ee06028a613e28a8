-- What opening and closing a session make of the parts.
use Rattle.std.proofs.Common.{◌≡◌, ◌∙◌, ℕ, ◌+◌, ◌-◌, ◌<◌, ◌≤◌, ◌==◌, Bool, true, false, List, [], ◌∷◌, ◌++◌, Some, None, All, map, filter, length, sum_by, leb, suc, refl, sym, ap, inl, inr, arith, length-append}
use Rattle.std.specs.Prelude.{not, if◌then◌else◌}
use Rattle.std.proofs.lemmas.Bool.{cases_Bool, le-leb, lt-leb}
use Rattle.std.proofs.lemmas.List.Concat.{flat_map-cons}
use Rattle.std.proofs.lemmas.List.Elements.{All-filter, All-push, All-weaker, filter-append}
use Rattle.ox_types.specs.Limits.{weight_limit}
use Rattle.ox_table.specs.Table.{IsRising}
use Rattle.ox_ops.specs.declared.answer.Record.{Record}
use Rattle.ox_ops.specs.declared.notice.Notice.{Notice}
use Rattle.ox_ops.specs.declared.notice.Notice.TheVariants as notice
use Rattle.ox_ops.specs.declared.reply.OpReply.{OpReply}
use Rattle.ox_ops.specs.declared.reply.OpReply.TheVariants as reply
use Rattle.ox_ops.specs.State.{Session, members_of, is_member, is_open}
use Rattle.ox_ops.specs.Weight.{session_weight, state_weight, record_weight}
use Rattle.ox_ops.specs.Apply.{replied, open_on, close_on}
use Rattle.ox_session.specs.declared.roster.Roster.{Roster}
use Rattle.ox_session.specs.Keys.{keys_in}
use Rattle.ox_session.specs.Members.{sessions_of, pairs_in, joined, members_in, with_session}
use Rattle.ox_session.specs.KeyLaws.{with_session-last}
use Rattle.ox_puts.specs.Records.{RecordsState, keyed, weight_in}
use Rattle.ox_index.specs.declared.added.Added.{Added}
use Rattle.ox_shard.specs.declared.done.Done.{Done}
use Rattle.ox_shard.specs.declared.parts.Parts.{Parts}
use Rattle.ox_shard.specs.Done.{applied_of}
use Rattle.ox_shard.specs.Lists.{HasEntriesOf}
use Rattle.ox_shard.specs.Closing.{without_keys}
use Rattle.ox_shard.specs.Parts.{state_of, HasDistinctEntries, IsTied, IsStep}
use Rattle.ox_shard.proofs.Keys.{key_of}
use Rattle.ox_shard.proofs.Leaving.{keys_of}
use Rattle.ox_shard.proofs.Sessions.{without_members, others_stay, same, not_there, one_less, distinct-filter, all_below, distinct-last}

-- the parts with these records, sessions and index
abbrev pub with_lists : Parts → RecordsState → List (ℕ × Roster) → List Added → Parts
with_lists p records sessions index = record p { records = records; lists = record { sessions = sessions; index = index } }

-- ---- opening

-- the shard weighs what is charged
weighed : (p : Parts) → IsTied p → state_weight (state_of p) ≡ weight_in p.records
weighed p tied = ap (λ n. sum_by record_weight p.records.records + n) tied.charged

module _ (p : Parts) (offset timeout : ℕ) (tied : IsTied p) where
  fits : weight_in p.records + 64 ≤ weight_limit → open_on (state_of p) offset timeout ≡ replied (record (state_of p) { sessions = sessions_of p.lists.sessions ++ record { id = offset; timeout = timeout } ∷ [] }) (reply.Opened offset)
  fits light =
      let all = weighed p tied in
      let yes : leb (state_weight (state_of p) + session_weight) weight_limit ≡ true = le-leb (state_weight (state_of p) + session_weight) weight_limit (omega arith) in
      rw yes refl

  -- there is no room for a session
  pub full : (weight_in p.records + 64 ≤ weight_limit → ⊥) → open_on (state_of p) offset timeout ≡ replied (state_of p) (reply.ShardFull (weight_in p.records + 64) weight_limit)
  full heavy =
      let all : state_weight (state_of p) ≡ weight_in p.records = weighed p tied in
      let none : leb (state_weight (state_of p) + session_weight) weight_limit ≡ false = lt-leb (state_weight (state_of p) + session_weight) weight_limit (omega (arith, heavy)) in
      rw none (ap (λ n. replied (state_of p) (reply.ShardFull (n + 64) weight_limit)) all)

  module _ (records : RecordsState) (sessions : List (ℕ × Roster)) (ids : All (λ (x : Session). x.id < offset) (sessions_of p.lists.sessions)) (charged : records ≡ record p.records { other = p.records.other + 64 })
      (are : sessions_of sessions ≡ with_session (record { id = offset; timeout = timeout }) (sessions_of p.lists.sessions))
    where
      last : sessions_of sessions ≡ sessions_of p.lists.sessions ++ record { id = offset; timeout = timeout } ∷ []
      last = are ∙ with_session-last (record { id = offset; timeout = timeout }) (sessions_of p.lists.sessions) (all_below offset (sessions_of p.lists.sessions) ids)

      pub opened-is : (done : Done) → weight_in p.records + 64 ≤ weight_limit → done ≡ record { replies = reply.Opened offset ∷ []; notices = [] } → applied_of (state_of (with_lists p records sessions p.lists.index)) done ≡ open_on (state_of p) offset timeout
      opened-is done light is = rw (charged, last, is) (sym (fits light))

      pub opened-tied : ((q : ℕ) → members_in q sessions ≡ members_in q p.lists.sessions) → IsTied (with_lists p records sessions p.lists.index)
      opened-tied members = rw charged (record {
        listed = record { members = λ q. members q ∙ tied.listed.members q; entries = tied.listed.entries };
        entries = tied.entries;
        sessions = rw last (distinct-last (record { id = offset; timeout = timeout }) (sessions_of p.lists.sessions) ids tied.sessions);
        charged =
            let one = length-append (sessions_of p.lists.sessions) (record { id = offset; timeout = timeout } ∷ []) in
            let all = tied.charged in
            rw last (omega arith);
        times = tied.times;
      })

      pub opened-step : IsStep offset p (with_lists p records sessions p.lists.index)
      opened-step = rw charged (record {
        time = refl;
        notices = refl;
        versions = omega arith;
        ids = λ low. rw last (All-push (λ (x : Session). x.id < offset + 1) (sessions_of p.lists.sessions) (record { id = offset; timeout = timeout })
            (All-weaker (λ (x : Session). x.id < offset) (λ (x : Session). x.id < offset + 1) (λ x lt. omega arith) (sessions_of p.lists.sessions) low) (omega arith));
      })

-- ---- closing

-- what a close gave tells whether the session was open
pub was_open : (b : Bool) (xs members : List (List ℕ)) → Some members ≡ (if b then Some xs else None) → (b ≡ true) × (members ≡ xs)
was_open true xs members e = (refl, cc)
was_open false xs members e = absurd cc

pub was_closed : (b : Bool) (xs : List (List ℕ)) → None ≡ (if b then Some xs else None) → b ≡ false
was_closed true xs e = cc
was_closed false xs e = refl

-- a session that isn't open has no members
no_pairs : (id k : ℕ) (keys : List (List ℕ)) → (k == id) ≡ false → filter (λ (p : ℕ × List ℕ). p.0 == id) (map (λ key. (k, key)) keys) ≡ []
no_pairs id k [] e = refl
no_pairs id k (key ∷ keys) e = rw e (no_pairs id k keys e)

none_open : (id : ℕ) (rosters : List (ℕ × Roster)) → is_open id (sessions_of rosters) ≡ false → members_in id rosters ≡ []
none_open id [] e = refl
none_open id (x ∷ rosters) e = elim (cases_Bool (x.0 == id)) [
  | inl here ↦ cc (rw here at e)
  | inr other ↦
      let rest : members_in id rosters ≡ [] = none_open id rosters (rw other at e) in
      ap (λ ps. map (λ (p : ℕ × List ℕ). p.1) (filter (λ (p : ℕ × List ℕ). p.0 == id) ps)) (flat_map-cons pairs_in x rosters)
      ∙ ap (map (λ (p : ℕ × List ℕ). p.1)) (filter-append (λ (p : ℕ × List ℕ). p.0 == id) (pairs_in x) (joined rosters) ∙ ap (λ ps. ps ++ filter (λ (p : ℕ × List ℕ). p.0 == id) (joined rosters)) (no_pairs id x.0 (keys_in x.1) other))
      ∙ rest
]

-- a session that is open is charged
pub is_charged : (p : Parts) (id : ℕ) → IsTied p → is_open id (sessions_of p.lists.sessions) ≡ true → 64 ≤ p.records.other
is_charged p id tied open' =
    let one = one_less id (sessions_of p.lists.sessions) tied.sessions open' in
    let all = tied.charged in
    omega arith

module _ (p : Parts) (id : ℕ) (tied : IsTied p) (sessions : List (ℕ × Roster)) (are : sessions_of sessions ≡ filter (λ (x : Session). not (x.id == id)) (sessions_of p.lists.sessions))
    (members-are : (q : ℕ) → members_in q sessions ≡ (if q == id then [] else members_in q p.lists.sessions))
  where
    module _ (closed : is_open id (sessions_of p.lists.sessions) ≡ false) where
      unchanged : sessions_of sessions ≡ sessions_of p.lists.sessions
      unchanged = are ∙ not_there id (sessions_of p.lists.sessions) closed

      pub closed-is : (done : Done) → done ≡ record { replies = reply.SessionDoesNotExist id ∷ []; notices = [] } → applied_of (state_of (with_lists p p.records sessions p.lists.index)) done ≡ close_on (state_of p) id
      closed-is done is = rw (unchanged, is, closed) refl

      no_members : (q : ℕ) → (if q == id then [] else members_in q p.lists.sessions) ≡ members_in q p.lists.sessions
      no_members q = elim (cases_Bool (q == id)) [
        | inl here ↦ rw here (sym (rw (same q id here) (none_open id p.lists.sessions closed)))
        | inr other ↦ rw other refl
      ]

      pub closed-tied : IsTied (with_lists p p.records sessions p.lists.index)
      closed-tied = record {
        listed = record { members = λ q. members-are q ∙ no_members q ∙ tied.listed.members q; entries = tied.listed.entries };
        entries = tied.entries;
        sessions = rw unchanged tied.sessions;
        charged = rw unchanged tied.charged;
        times = tied.times;
      }

      pub closed-step : (offset : ℕ) → IsStep offset p (with_lists p p.records sessions p.lists.index)
      closed-step offset = record {
        time = refl;
        notices = refl;
        versions = omega arith;
        ids = λ low. rw unchanged (All-weaker (λ (x : Session). x.id < offset) (λ (x : Session). x.id < offset + 1) (λ x lt. omega arith) (sessions_of p.lists.sessions) low);
      }

    module _ (rising : IsRising (keyed p.records.records)) (open' : is_open id (sessions_of p.lists.sessions) ≡ true) (members : List (List ℕ)) (of : members ≡ members_in id p.lists.sessions) (records : RecordsState)
        (taken : records ≡ record (record p.records { other = p.records.other - 64 }) { records = without_keys members p.records.records }) (index : List Added)
      where
        keys : members ≡ keys_of id p.records.records
        keys = of ∙ tied.listed.members id

        others : without_keys members p.records.records ≡ filter (λ r. not (is_member id r)) p.records.records
        others = ap (λ ks. without_keys ks p.records.records) keys ∙ without_members id p.records.records rising

        length-keys : (rs : List Record) → length (map key_of rs) ≡ length rs
        length-keys [] = refl
        length-keys (r ∷ rs) = ap (λ n. suc n) (length-keys rs)

        deleted-keys : (rs : List Record) → map notice.Deleted (map key_of rs) ≡ map (λ (r : Record). notice.Deleted r.key) rs
        deleted-keys [] = refl
        deleted-keys (r ∷ rs) = ap (λ ns. notice.Deleted r.key ∷ ns) (deleted-keys rs)

        pub gone-is : (removed : ℕ) (replies : List OpReply) (notices : List Notice) → removed ≡ length members → replies ≡ reply.Closed removed ∷ [] → notices ≡ map notice.Deleted members
            → applied_of (state_of (with_lists p records sessions index)) (record { replies = replies; notices = notices }) ≡ close_on (state_of p) id
        gone-is removed replies notices n r d =
            let count : removed ≡ length (members_of id p.records.records) = n ∙ ap length keys ∙ length-keys (members_of id p.records.records) in
            let all : notices ≡ map (λ (r : Record). notice.Deleted r.key) (members_of id p.records.records) = d ∙ ap (map notice.Deleted) keys ∙ deleted-keys (members_of id p.records.records) in
            rw (taken, others, are, r, count, all, open') refl

        pub gone-tied : (HasEntriesOf p.lists.index p.records.records → HasEntriesOf index records.records) → IsTied (with_lists p records sessions index)
        gone-tied entries =
            let left : records.records ≡ filter (λ r. not (is_member id r)) p.records.records = ap (λ (t : RecordsState). t.records) taken ∙ others in
            record {
              listed = record {
                members = λ q. members-are q ∙ ap (λ ks. if q == id then [] else ks) (tied.listed.members q) ∙ others_stay id q p.records.records ∙ ap (keys_of q) (sym left);
                entries = entries tied.listed.entries;
              };
              entries = rw left (All-filter (λ r. not (is_member id r)) HasDistinctEntries p.records.records tied.entries);
              sessions = rw are (distinct-filter (λ (x : Session). not (x.id == id)) (sessions_of p.lists.sessions) tied.sessions);
              charged =
                  let one = one_less id (sessions_of p.lists.sessions) tied.sessions open' in
                  let all = tied.charged in
                  let other : records.other ≡ p.records.other - 64 = ap (λ (t : RecordsState). t.other) taken in
                  rw (are, other) (omega arith);
              times = tied.times;
            }

        pub gone-step : (offset : ℕ) → IsStep offset p (with_lists p records sessions index)
        gone-step offset = record {
          time = refl;
          notices = refl;
          versions = let same' : records.next_version ≡ p.records.next_version = ap (λ (t : RecordsState). t.next_version) taken in omega arith;
          ids = λ low. rw are (All-filter (λ (x : Session). not (x.id == id)) (λ (x : Session). x.id < offset + 1) (sessions_of p.lists.sessions)
              (All-weaker (λ (x : Session). x.id < offset) (λ (x : Session). x.id < offset + 1) (λ x lt. omega arith) (sessions_of p.lists.sessions) low));
        }
