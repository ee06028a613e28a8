use Rattle.std.proofs.Common.{◌<◌, arith, ap}
use Rattle.std.specs.Option.{option_copied}
use Rattle.ox_puts.proofs.parts.meta_over.Goals as goal

pub overflow_add-result : goal.overflow_add-result
overflow_add-result c =
    let lower : c.in-Some.old.now.meta.modifications < c.args.version = c.requires c.in-Some.old.now (ap option_copied c.in-Some.is) in
    omega arith
