-- The blocks that entries take, and the first Append for which too few are left.
use Rattle.std.specs.Prelude.{ℕ, ◌-◌, List, [], ◌∷◌, Option, Some, None, nat_lt, if◌then◌else◌}
use Rattle.std.specs.List.{sum_by}
use Rattle.ox_types.specs.declared.log.Entry.{Entry}
use Rattle.ox_types.specs.declared.durable.Action.{Action}
use Rattle.ox_types.specs.declared.durable.Action.TheVariants as action
use Rattle.ox_types.specs.Durable.{DurableState, folded}
use Rattle.ox_bytes.specs.LogForms.{entry_blocks}

-- the blocks of entries: each begins a block of its own
abbrev pub blocks_used : List Entry → ℕ
blocks_used entries = sum_by entry_blocks entries

-- what an Append needs and what is free before it, of so many blocks in all, where that is too few
abbrev pub full_at : ℕ → DurableState → Action → Option (ℕ × ℕ)
full_at all d (action.Append entries) =
    if nat_lt (all - blocks_used d.entries) (blocks_used entries)
    then Some (blocks_used entries, all - blocks_used d.entries)
    else None
full_at all d _ = None

-- the first, or else the second
abbrev pub or_else : Option (ℕ × ℕ) → Option (ℕ × ℕ) → Option (ℕ × ℕ)
or_else (Some x) other = Some x
or_else None other = other

-- the same of the first Append of a batch for which there are too few
abbrev pub first_full : ℕ → DurableState → List Action → Option (ℕ × ℕ)
first_full all d [] = None
first_full all d (a ∷ actions) = or_else (full_at all d a) (first_full all (folded d a) actions)
