use Rattle.std.proofs.Common.{append_assoc}
use Rattle.ox_ops.specs.Forms.{command}
use Rattle.ox_ops.proofs.fields.write.ShardCommandField.put.Goals as goal

pub returns-in_ok-put_u64-in-Close : goal.returns-in_ok-put_u64-in-Close
unfolding command
returns-in_ok-put_u64-in-Close c = rw (c.in-Close.is, c.in_ok-put_u64-in-Close.ensures.ok, c.in_ok-put_u8-in-Close.ensures.ok) (simp append_assoc)

pub returns-in_ok-put_u64-in-Expire : goal.returns-in_ok-put_u64-in-Expire
unfolding command
returns-in_ok-put_u64-in-Expire c = rw (c.in-Expire.is, c.in_ok-put_u64-in-Expire.ensures.ok, c.in_ok-put_u8-in-Expire.ensures.ok) (simp append_assoc)
