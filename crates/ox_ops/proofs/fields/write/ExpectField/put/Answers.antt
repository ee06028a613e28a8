use Rattle.std.proofs.Common.{append_assoc}
use Rattle.ox_ops.specs.Forms.{expect}
use Rattle.ox_ops.proofs.fields.write.ExpectField.put.Goals as goal

pub returns-in_ok-put_u64-in-Exactly : goal.returns-in_ok-put_u64-in-Exactly
unfolding expect
returns-in_ok-put_u64-in-Exactly c = rw (c.in-Exactly.is, c.in_ok-put_u64-in-Exactly.ensures.ok, c.in_ok-put_u8-in-Exactly.ensures.ok) (simp append_assoc)
