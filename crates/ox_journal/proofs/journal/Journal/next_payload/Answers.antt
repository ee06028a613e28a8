use Rattle.std.proofs.Common.{◌≡◌, Err, inl, inr, length}
use Rattle.ox_journal.specs.declared.fault.JournalFault.TheVariants.{Damaged}
use Rattle.ox_journal.proofs.ReadMore.{read_more, read_all, still_reading, held_next, held_none, held_whole}
use Rattle.ox_journal.proofs.journal.Journal.next_payload.Goals as goal

pub returns-in-Ok-Some-clause-given : goal.returns-in-Ok-Some-clause-given
returns-in-Ok-Some-clause-given g c done told is reading =
    let at = rw c.in-Ok-Some.field-0-is at c.in-Ok-Some.ensures.some told in
    let small = rw c.in-Ok-Some.field-0-is at c.in-Ok-Some.ensures.small in
    let size : c.len.result ≡ length c.in-Ok-Some.payload = c.len.ensures in
    rw size (read_more _ _ _ _ done reading _ c.in-Ok-Some.payload (c.read_record.ensures.quiet told) small.1 at)

pub returns-in-Ok-Some-clause-held : goal.returns-in-Ok-Some-clause-held
returns-in-Ok-Some-clause-held g c done more told is reading half =
    let at = rw c.in-Ok-Some.field-0-is at c.in-Ok-Some.ensures.some told in
    let small = rw c.in-Ok-Some.field-0-is at c.in-Ok-Some.ensures.small in
    held_next _ _ _ _ done reading more half c.in-Ok-Some.payload small.1 at

pub returns-in-Ok-None-clause-none : goal.returns-in-Ok-None-clause-none
returns-in-Ok-None-clause-none g c done told is reading ok =
    read_all _ _ _ _ done reading _ (c.read_record.ensures.quiet told) (c.read_record.ensures.none told cc)

pub returns-in-Ok-None-clause-held : goal.returns-in-Ok-None-clause-held
returns-in-Ok-None-clause-held g c done more told is reading half =
    held_none _ _ _ _ done reading more half (c.read_record.ensures.none told cc)

pub returns-in-Err-clause-again : goal.returns-in-Err-clause-again
returns-in-Err-clause-again g c done told is reading = still_reading _ _ _ _ done reading _ (c.read_record.ensures.quiet told)

pub returns-in-Err-clause-held_err : goal.returns-in-Err-clause-held_err
returns-in-Err-clause-held_err g c done more told is reading half =
    elim c.in-Err.ensures.only [
      | inl disk ↦ inl disk
      | inr other ↦ elim other [
        | inl memory ↦ inr memory
        | inr bad ↦ let e : c.read_record.result ≡ Err (Damaged c.args.self.now.half c.args.self.now.end) = cc in
            absurd (held_whole _ _ _ _ done reading more half (c.read_record.ensures.damaged told _ _ e))
      ]
    ]
