use Rattle.std.proofs.Common.{append_assoc}
use Rattle.ox_wire.specs.MessageForms.{swap_refused}
use Rattle.ox_wire.proofs.fields.swap.SwapRefusedField.put.Goals as goal

pub returns-in-NotMember : goal.returns-in-NotMember
unfolding swap_refused
returns-in-NotMember c = rw c.in-NotMember.is c.put_node.ensures

pub returns-in-UnknownNode : goal.returns-in-UnknownNode
unfolding swap_refused
returns-in-UnknownNode c = rw c.in-UnknownNode.is c.put_node-in-UnknownNode.ensures

pub returns-in-AlreadyMember : goal.returns-in-AlreadyMember
unfolding swap_refused
returns-in-AlreadyMember c = rw c.in-AlreadyMember.is c.put_node-in-AlreadyMember.ensures

pub returns-in_ok-put_u64-in-TermsSpent-2 : goal.returns-in_ok-put_u64-in-TermsSpent-2
unfolding swap_refused
returns-in_ok-put_u64-in-TermsSpent-2 c = rw (c.in-TermsSpent.is, c.in_ok-put_u64-in-TermsSpent-2.ensures.ok, c.in_ok-put_u64-in-TermsSpent.ensures.ok, c.in_ok-put_u8-in-TermsSpent.ensures.ok, c.term-in-TermsSpent.view_is) (simp append_assoc)
