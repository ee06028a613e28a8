use Rattle.std.proofs.Common.{append_assoc}
use Rattle.ox_ops.specs.Forms.{op_reply}
use Rattle.ox_bytes.specs.WritingLaws.{puts_all}
use Rattle.ox_ops.proofs.fields.reply.OpReplyField.put.Goals as goal

pub returns-in_ok-put_u64-in-Ranged : goal.returns-in_ok-put_u64-in-Ranged
unfolding op_reply
returns-in_ok-put_u64-in-Ranged c = rw (c.in-Ranged.is, c.in_ok-put_u64-in-Ranged.ensures.ok, c.in_ok-put_u8-in-Ranged.ensures.ok) (simp append_assoc)

pub returns-in-KeyNotFound : goal.returns-in-KeyNotFound
unfolding op_reply
returns-in-KeyNotFound c = rw c.in-KeyNotFound.is (puts_all c.put_u8-in-KeyNotFound.result c.args.to.now c.put_u8-in-KeyNotFound.new.self _ c.put_u8-in-KeyNotFound.ensures.ok c.put_u8-in-KeyNotFound.ensures.err)

pub returns-in_ok-put_version-in-UnexpectedVersion : goal.returns-in_ok-put_version-in-UnexpectedVersion
unfolding op_reply
returns-in_ok-put_version-in-UnexpectedVersion c = rw (c.in-UnexpectedVersion.is, c.in_ok-put_version-in-UnexpectedVersion.ensures, c.in_ok-put_u8-in-UnexpectedVersion.ensures.ok) (simp append_assoc)

pub returns-in_ok-put_u64-in-SessionDoesNotExist : goal.returns-in_ok-put_u64-in-SessionDoesNotExist
unfolding op_reply
returns-in_ok-put_u64-in-SessionDoesNotExist c = rw (c.in-SessionDoesNotExist.is, c.in_ok-put_u64-in-SessionDoesNotExist.ensures.ok, c.in_ok-put_u8-in-SessionDoesNotExist.ensures.ok) (simp append_assoc)

pub returns-in_ok-put_u32-in-SequenceSpent : goal.returns-in_ok-put_u32-in-SequenceSpent
unfolding op_reply
returns-in_ok-put_u32-in-SequenceSpent c = rw (c.in-SequenceSpent.is, c.in_ok-put_u32-in-SequenceSpent.ensures.ok, c.in_ok-put_u8-in-SequenceSpent.ensures.ok) (simp append_assoc)

pub returns-in_ok-put_u64-in-Opened : goal.returns-in_ok-put_u64-in-Opened
unfolding op_reply
returns-in_ok-put_u64-in-Opened c = rw (c.in-Opened.is, c.in_ok-put_u64-in-Opened.ensures.ok, c.in_ok-put_u8-in-Opened.ensures.ok) (simp append_assoc)

pub returns-in_ok-put_u64-in-Closed : goal.returns-in_ok-put_u64-in-Closed
unfolding op_reply
returns-in_ok-put_u64-in-Closed c = rw (c.in-Closed.is, c.in_ok-put_u64-in-Closed.ensures.ok, c.in_ok-put_u8-in-Closed.ensures.ok) (simp append_assoc)
