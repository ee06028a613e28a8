use Rattle.std.proofs.Common.{ap, subst, ◌∙◌, arith}
use Rattle.ox_bytes.specs.Reading.{Tells}
use Rattle.ox_bytes.specs.Fields.{whole_of}
use Rattle.ox_bytes.specs.FieldLaws.{whole_again}
use Rattle.ox_bytes.proofs.Found.{is_found}
use Rattle.ox_bytes.proofs.whole.decode.Goals as goal

pub returns-clause-found : goal.returns-clause-found
returns-clause-found g c = is_found g.T.Field.form g.met.T.Field.exact c.args.bytes.now c.read_whole.result (λ i. omega (arith, c.type_inv.bytes i)) c.read_whole.ensures

pub returns-clause-only : goal.returns-clause-only
returns-clause-only g c = λ x lawful e. subst (λ r. Tells c.read_whole.result r) (ap (whole_of g.T.Field.form) e ∙ whole_again g.T.Field.form g.met.T.Field.exact x lawful) c.read_whole.ensures
