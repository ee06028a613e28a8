use Rattle.std.proofs.Common.{◌≡◌, true, subst, append_assoc}
use Rattle.ox_wire.specs.MessageForms.{outcome}
use Rattle.ox_wire.proofs.fields.outcome.OutcomeField.put.Goals as goal

pub put-requires : goal.put-requires
unfolding outcome
put-requires c = subst (λ x. outcome.is_lawful x ≡ true) c.in-Refused.is c.requires

pub returns-in_ok-put-in-Refused : goal.returns-in_ok-put-in-Refused
unfolding outcome
returns-in_ok-put-in-Refused c = rw (c.in-Refused.is, c.in_ok-put-in-Refused.ensures, c.in_ok-put_u8-in-Refused.ensures.ok) (simp append_assoc)
