use Rattle.std.proofs.Common.{◌≡◌, ◌∙◌, inl, inr, ap, sym, arith, Err}
use Rattle.ox_wal.specs.declared.fault.WalFault.TheVariants.{Damaged, NoMemory}
use Rattle.ox_wal.specs.declared.log.Log.{Log}
use Rattle.ox_wal.specs.Files.{actions_of}
use Rattle.ox_wal.proofs.Recovering.{goes_on, payload_breaks, never_held, cut_breaks, damaged_is, err_is, breaks_at}
use Rattle.ox_wal.proofs.recover.read_all.Goals as goal

pub loop-log-preserved : goal.loop-log-preserved
loop-log-preserved g c =
    let now = c.loop-log.invariant in
    let same = c.next_payload.ensures.same in
    record {
      state = (rw c.in-Ok-Some.field-0-is at c.in-Ok-Some.ensures.state_some).1;
      half = same.0 ∙ now.half;
      round = same.1 ∙ now.round;
      spare = c.next_payload.ensures.spare ∙ now.spare;
      later = let later = now.later in omega (arith, c.next_payload.ensures.later);
      told = λ told.
          let so_far = now.told told in
          let reading = rw (c.in-Ok-Some.field-0-is) at (c.in-Ok-Some.ensures.given so_far.done told now.state so_far.reads.reading) in
          let taken = c.in-Ok.ensures.taken in
          rw same.1 (goes_on _ _ _ _ _ _ _ so_far _ _ _ c.in-Ok-Some.payload (c.next_payload.ensures.quiet told now.state) (rw same.1 at reading)
          (λ more half. sym c.in-Ok-Some.field-0-is ∙ c.in-Ok-Some.ensures.held so_far.done more told now.state so_far.reads.reading half)
          (rw c.in-Ok-Some.field-0-is at c.in-Ok-Some.ensures.gate told now.state)
          taken.0 _ c.in-Ok.still (ap actions_of (sym c.as_slice.ensures) ∙ taken.1) taken.2 taken.3);
    }

pub returns-in-Err-read_payload-clause-damaged : goal.returns-in-Err-read_payload-clause-damaged
returns-in-Err-read_payload-clause-damaged g c = λ half at is.
    let now = c.loop-log.invariant in
    let same = c.next_payload.ensures.same in
    let fault_is : c.in-Err-read_payload.fault ≡ Damaged half at = err_is {T = Log} _ _ is in
    elim c.in-Err-read_payload.ensures.only [
      | inl none ↦ absurd (let clash : NoMemory ≡ Damaged half at = sym none ∙ fault_is in cc)
      | inr here ↦ let both = damaged_is _ _ half at (sym here ∙ fault_is) in (
        sym both.0 ∙ now.half,
        λ told.
            let so_far = now.told told in
            let reading = rw (c.in-Ok-Some.field-0-is) at (c.in-Ok-Some.ensures.given so_far.done told now.state so_far.reads.reading) in
            breaks_at _ _ _ _ _ now.round both.1 (payload_breaks _ _ _ _ _ _ _ so_far _ _ _ c.in-Ok-Some.payload (c.next_payload.ensures.quiet told now.state) (rw same.1 at reading)
            (λ more half. sym c.in-Ok-Some.field-0-is ∙ c.in-Ok-Some.ensures.held so_far.done more told now.state so_far.reads.reading half)
            (rw c.in-Ok-Some.field-0-is at c.in-Ok-Some.ensures.gate told now.state)
            (λ ys are. c.in-Err-read_payload.ensures.damaged ys (ap Err here) (ap actions_of c.as_slice.ensures ∙ are))),
      )
    ]

pub returns-in-Err-read_payload-clause-held_err : goal.returns-in-Err-read_payload-clause-held_err
returns-in-Err-read_payload-clause-held_err g c = λ payloads state told half folds.
    let now = c.loop-log.invariant in
    let same = c.next_payload.ensures.same in
    elim c.in-Err-read_payload.ensures.only [
      | inl none ↦ inr none
      | inr here ↦ absurd (
          let so_far = now.told told in
          let reading = rw (c.in-Ok-Some.field-0-is) at (c.in-Ok-Some.ensures.given so_far.done told now.state so_far.reads.reading) in
          never_held _ _ _ _ _ _ _ so_far _ _ _ c.in-Ok-Some.payload (c.next_payload.ensures.quiet told now.state) (rw same.1 at reading)
          (λ more half. sym c.in-Ok-Some.field-0-is ∙ c.in-Ok-Some.ensures.held so_far.done more told now.state so_far.reads.reading half)
          (rw c.in-Ok-Some.field-0-is at c.in-Ok-Some.ensures.gate told now.state)
          (λ ys are. c.in-Err-read_payload.ensures.damaged ys (ap Err here) (ap actions_of c.as_slice.ensures ∙ are))
          payloads state (rw now.round half) folds
          )
    ]

pub returns-in-Err-Damaged-clause-damaged : goal.returns-in-Err-Damaged-clause-damaged
returns-in-Err-Damaged-clause-damaged g c = λ half at is.
    let now = c.loop-log.invariant in
    let both = damaged_is c.loop-log.journal.half c.loop-log.journal.end half at (err_is {T = Log} _ _ is) in (
      sym both.0 ∙ now.half,
      λ told.
          let so_far = now.told told in
          let cut = c.next_payload.ensures.damaged told c.in-Err-Damaged.field-0-0 c.in-Err-Damaged.field-0-1 (c.in-Err-Damaged.is ∙ ap Err c.in-Err-Damaged.field-0-is) in
          breaks_at _ _ _ _ _ now.round both.1 (cut_breaks _ _ _ _ _ _ _ so_far cut.2),
    )
