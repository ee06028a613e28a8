use Rattle.ox_wire.proofs.Spelled.{one_message, one_text, begins_none}
use Rattle.ox_wire.proofs.law.law_spelling.Goals as goal

pub returns-clause-one_message : goal.returns-clause-one_message
returns-clause-one_message c = one_message

pub returns-clause-one_text : goal.returns-clause-one_text
returns-clause-one_text c = one_text

pub returns-clause-begins_none : goal.returns-clause-begins_none
returns-clause-begins_none c = begins_none
