use Rattle.std.proofs.Common.{◌∙◌, ap, List}
use Rattle.std.specs.List.{list_all}
use Rattle.ox_types.specs.declared.log.Entry.{Entry}
use Rattle.ox_bytes.specs.LogForms.{entry}
use Rattle.ox_wal.proofs.Folding.{append_lawful}
use Rattle.ox_wal.proofs.log.Log.draft_step.Goals as goal

pub draft_append-requires-clause-spelled : goal.draft_append-requires-clause-spelled
draft_append-requires-clause-spelled c =
    ap (λ (l : List Entry). list_all entry.is_lawful l) c.as_slice.ensures ∙ append_lawful c.args.action.now c.in-Append.entries c.in-Append.is c.requires.spelled
