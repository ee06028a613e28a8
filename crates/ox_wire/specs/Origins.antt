-- The origins of the entries of the only shard, in the order of its log.
use Rattle.std.specs.Prelude.{◌≡◌, ℕ, ◌≤◌, List, length, slice_get, Some}
use Rattle.ox_types.specs.declared.log.Entry.{Entry}
use Rattle.ox_wire.specs.declared.origin.Origin.{Origin}

-- each entry of a history stands at its offset, and its origin stands at the same place
pub record AreInStep (history : List Entry) (origins : List Origin) : Type 0 where
  pub enough : length history ≤ length origins
  pub entry : (i : ℕ) (e : Entry) → slice_get history i ≡ Some e → e.offset ≡ i
  pub origin : (i : ℕ) (x : Origin) → slice_get origins i ≡ Some x → (x.shard ≡ 0) × (x.offset ≡ i)
  pub term : (i : ℕ) (e : Entry) (x : Origin) → slice_get history i ≡ Some e → slice_get origins i ≡ Some x → x.term ≡ e.term
