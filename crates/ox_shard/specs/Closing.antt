-- The records that go with a session.
use Rattle.std.specs.Prelude.{List, [], ◌∷◌, ℕ}
use Rattle.ox_ops.specs.declared.answer.Record.{Record}
use Rattle.ox_ops.specs.State.{without_key}

-- the records but those of these keys
abbrev pub without_keys : List (List ℕ) → List Record → List Record
without_keys [] records = records
without_keys (key ∷ keys) records = without_keys keys (without_key key records)
