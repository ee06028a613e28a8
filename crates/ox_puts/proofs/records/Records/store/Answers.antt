use Rattle.std.proofs.Common.{◌≡◌, ◌≤◌, ◌∙◌, ◌+◌, sym, ap}
use Rattle.ox_ops.specs.State.{with_record}
use Rattle.ox_puts.specs.Records.{IsKept}
use Rattle.ox_puts.proofs.Puts.{sound-stored, kept-stored}
use Rattle.ox_puts.proofs.records.Records.store.Goals as goal

pub invariant_of-self-2 : goal.invariant_of-self-2
invariant_of-self-2 c =
    kept-stored c.self.inside.next_version c.self.inside.other c.args.self.now c.self.inside.table c.insert.new.self c.args.held c.args.added c.self.view_is c.in_ok-old.ensures.ok c.self.invariant.sound c.requires.version c.requires.modifications c.in_ok-old.ensures.rising c.requires.weight c.requires.light
