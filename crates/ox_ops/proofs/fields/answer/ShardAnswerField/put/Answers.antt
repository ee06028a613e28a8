use Rattle.std.proofs.Common.{◌≡◌, true, subst, append_assoc}
use Rattle.std.proofs.lemmas.Bool.{and_parts}
use Rattle.ox_bytes.specs.Fields.{list, bool}
use Rattle.ox_ops.specs.Forms.{record_form, answer}
use Rattle.ox_ops.proofs.fields.answer.ShardAnswerField.put.Goals as goal

pub put-requires-in-Records : goal.put-requires-in-Records
unfolding answer
put-requires-in-Records c = (and_parts ((list record_form).is_lawful c.in-Records.records) (bool.is_lawful c.in-Records.more) (subst (λ x. answer.is_lawful x ≡ true) c.in-Records.is c.requires)).0

pub returns-in_ok-put_bool-in-Records : goal.returns-in_ok-put_bool-in-Records
unfolding answer
returns-in_ok-put_bool-in-Records c = rw (c.in-Records.is, c.in_ok-put_bool-in-Records.ensures.ok, c.in_ok-put-in-Records.ensures, c.in_ok-put_u8-in-Records.ensures.ok) (simp append_assoc)
