-- Entries that are read and stand in the order of a log may be applied.
use Rattle.std.proofs.Common.{◌≡◌, ◌+◌, ◌<◌, ◌≤◌, ◌^◌, ℕ, suc, true, nat_eq, nat_le, List, [], ◌∷◌, length, arith, slice_index_or}
use Rattle.std.specs.Prelude.{◌&&◌}
use Rattle.std.specs.List.{list_all}
use Rattle.std.proofs.lemmas.Bool.{and_parts, eqb-true, leb-true}
use Rattle.ox_types.specs.declared.log.Entry.{Entry}
use Rattle.ox_types.specs.Durable.{may_follow}
use Rattle.ox_machine.specs.Meaning.{Meaning}
use Rattle.ox_machine.specs.Store.{IsBody, RunsFrom}
use Rattle.ox_solo_replica.specs.Advance.{is_entry, is_read}

-- the first entry stands in its place, and the other ones follow it
pub record Follows (top term from : ℕ) (e : Entry) (entries : List Entry) : Type 0 where
  pub offset : e.offset ≡ from
  pub low : e.term ≤ top
  pub behind : may_follow top e.term (from + 1) entries ≡ true

pub may_follow-parts : (top term from : ℕ) (e : Entry) (entries : List Entry) → may_follow top term from (e ∷ entries) ≡ true → Follows top term from e entries
may_follow-parts top term from e entries h =
    let a = and_parts (nat_eq e.offset from && nat_le term e.term && nat_le e.term top) (may_follow top e.term (from + 1) entries) h in
    let b = and_parts (nat_eq e.offset from && nat_le term e.term) (nat_le e.term top) a.0 in
    let c = and_parts (nat_eq e.offset from) (nat_le term e.term) b.0 in
    record { offset = eqb-true e.offset from c.0; low = leb-true e.term top b.1; behind = a.1 }

module _ {S C R Q A : Type 0} (M : Meaning S C R Q A) where
  pub runs_from : (top term from : ℕ) (entries : List Entry) → may_follow top term from entries ≡ true → list_all (is_entry M) entries ≡ true
      → ((k : ℕ) (e : Entry) → k < length entries → IsBody (slice_index_or entries k e).body) → from + length entries ≤ 2 ^ 53 → RunsFrom from entries
  runs_from top term from [] follow read bytes small = tt
  runs_from top term from (e ∷ entries) follow read bytes small =
      let parts = may_follow-parts top term from e entries follow in
      let both = and_parts (is_entry M e) (list_all (is_entry M) entries) read in
      let first = and_parts (nat_le e.time 9007199254740992) (is_read M e.body) both.0 in
      let time : e.time ≤ 2 ^ 53 = leb-true e.time 9007199254740992 first.0 in (
        record { offset_is = parts.offset; offset_small = omega arith; time_small = time; says_bytes = bytes 0 e (omega arith) },
        runs_from top e.term (from + 1) entries parts.behind both.1 (λ k d within. bytes (suc k) d (omega arith)) (omega arith),
      )
