use Rattle.std.proofs.Common.{sym, refl}
use Rattle.ox_shard.specs.Parts.{state_of}
use Rattle.ox_shard.proofs.parts.Parts.notices_past.Goals as goal

pub returns-in-Ok : goal.returns-in-Ok
returns-in-Ok c = sym (c.in-Ok.ensures.page (state_of c.args.self.now) refl)

pub returns-in-Err-NotRetained : goal.returns-in-Err-NotRetained
returns-in-Err-NotRetained c = sym ((rw c.in-Err-NotRetained.field-0-is at c.in-Err-NotRetained.ensures.refused) (state_of c.args.self.now) refl)
