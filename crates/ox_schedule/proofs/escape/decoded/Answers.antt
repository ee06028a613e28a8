use Rattle.ox_schedule.proofs.Words.{are_bytes}
use Rattle.ox_schedule.proofs.escape.decoded.Goals as goal

pub returns-clause-small : goal.returns-clause-small
returns-clause-small c = rw (c.in_ok-append_to.ensures.ok, c.new-bytes.ensures.items) (are_bytes _ c.percent_decode.ensures.small)
