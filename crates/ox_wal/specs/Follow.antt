-- The last entry of a log, and an entry by its offset.
use Rattle.std.specs.Prelude.{◌≡◌, ℕ, ◌+◌, ◌-◌, ◌==◌, true, List, [], ◌∷◌, Option, Some, None, nat_lt, slice_get, option_map, if◌then◌else◌}
use Rattle.ox_types.specs.declared.log.Entry.{Entry}
use Rattle.ox_types.specs.Durable.{DurableState, may_follow}

-- the term of the last entry, or else this one
abbrev pub last_term : ℕ → List Entry → ℕ
last_term term [] = term
last_term term (e ∷ entries) = last_term e.term entries

-- the entry at an offset, where the log has it
abbrev pub entry_at : DurableState → ℕ → Option Entry
entry_at d offset = if nat_lt offset d.base.count then None else slice_get d.entries (offset - d.base.count)

-- the term of an offset: that of its entry, and a base gives its own last offset its term
abbrev pub term_of : DurableState → ℕ → Option ℕ
term_of d offset = if offset + 1 == d.base.count then Some d.base.term else option_map (λ (e : Entry). e.term) (entry_at d offset)

-- the entries may stand in a log
pub record Follow (entries : List Entry) : Type 0 where
  pub top : ℕ
  pub term : ℕ
  pub count : ℕ
  pub is : may_follow top term count entries ≡ true
