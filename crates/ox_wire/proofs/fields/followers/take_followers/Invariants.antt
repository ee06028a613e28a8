use Rattle.ox_bytes.specs.ListLaws.{IsSoFar}
use Rattle.ox_wire.specs.BodyForms.{followers_course, followers}
use Rattle.ox_wire.proofs.fields.followers.take_followers.Given as goal

abbrev pub invariant-loop : goal.invariant-loop
invariant-loop l = IsSoFar followers_course l.followers l.count l.counter l.least l.from (followers.at l.fn.from)
