use Rattle.std.proofs.Common.{refl}
use Rattle.ox_machine.specs.Forms.{command, reply}
use Rattle.ox_bytes.specs.Numbers.{u8_at, u64_at, be32, be64}
use Rattle.ox_bytes.specs.LogForms.{entry, entry_body}
use Rattle.ox_bytes.specs.Fields.{whole_of, choice_at}
use Rattle.ox_solo_replica.specs.Step.{replica_step, row_at}
use Rattle.ox_solo_replica.specs.Moving.{advance}
use Rattle.ox_solo_replica.proofs.worked.worked_rows.Goals as goal

pub returns-clause-fenced : goal.returns-clause-fenced
unfolding replica_step row_at
returns-clause-fenced c = refl

pub returns-clause-led : goal.returns-clause-led
unfolding replica_step row_at
returns-clause-led c = refl

pub returns-clause-ready : goal.returns-clause-ready
unfolding replica_step row_at advance
returns-clause-ready c = refl

pub returns-clause-stored : goal.returns-clause-stored
unfolding replica_step row_at advance command reply whole_of choice_at u8_at u64_at be64 be32 entry entry_body
returns-clause-stored c = refl

pub returns-clause-value : goal.returns-clause-value
unfolding replica_step row_at advance command reply whole_of choice_at u8_at u64_at be64 be32 entry entry_body
returns-clause-value c = refl

pub returns-clause-commit : goal.returns-clause-commit
unfolding replica_step row_at advance command reply whole_of choice_at u8_at u64_at be64 be32 entry entry_body
returns-clause-commit c = refl
