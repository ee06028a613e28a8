use Rattle.std.proofs.Common.{append_assoc}
use Rattle.ox_ops.specs.Forms.{notice}
use Rattle.ox_ops.proofs.fields.notice.NoticeField.put.Goals as goal

pub returns-in_ok-put_key-in-Deleted : goal.returns-in_ok-put_key-in-Deleted
unfolding notice
returns-in_ok-put_key-in-Deleted c = rw (c.in-Deleted.is, c.in_ok-put_key-in-Deleted.ensures.ok, c.in_ok-put_u8-in-Deleted.ensures.ok) (simp append_assoc)

pub returns-in_ok-put-in-Ranged : goal.returns-in_ok-put-in-Ranged
unfolding notice
returns-in_ok-put-in-Ranged c = rw (c.in-Ranged.is, c.in_ok-put-in-Ranged.ensures, c.in_ok-put_u8-in-Ranged.ensures.ok) (simp append_assoc)
