use Rattle.std.proofs.Common.{◌≡◌, ◌∙◌, sym, Ok}
use Rattle.ox_journal.specs.declared.reading.Next.TheVariants.{Record}
use Rattle.ox_journal.proofs.ReadMore.{stands}
use Rattle.ox_journal.proofs.reading.read_record.Goals as goal

pub returns-in_ok-payload-in-Ok-Record-clause-some : goal.returns-in_ok-payload-in-Ok-Record-clause-some
returns-in_ok-payload-in-Ok-Record-clause-some g c told =
    let is : c.read_next.result ≡ Ok (Record c.in-Ok-Record.len) = cc in
    stands _ _ _ _ c.in-Ok-Record.len (c.read_next.ensures.quiet told).seen c.in_ok-payload-in-Ok-Record.ensures.size
    (sym (c.in-Ok-Record.ensures.told told) ∙ c.in-Ok-Record.field-0-is) (c.read_next.ensures.spelled told _ is) (c.in_ok-payload-in-Ok-Record.ensures.told told)
