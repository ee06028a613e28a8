-- How a record came about.
use Rattle.std.specs.Prelude.{ℕ, List, ◌++◌}
use Rattle.ox_text.specs.Words.{field}
use Rattle.ox_ops.specs.declared.reply.Meta.{Meta}

-- version, modifications, and the times of creation and modification
abbrev pub meta_fields : Meta → List ℕ
meta_fields m = field m.version ++ field m.modifications ++ field m.created ++ field m.modified
