use Rattle.std.proofs.Common.{◌≡◌, ◌∙◌, inl, inr, sym, refl, ap, arith}
use Rattle.ox_outside.specs.Disk.{Quiet}
use Rattle.ox_wal.specs.State.{state_of}
use Rattle.ox_wal.specs.Files.{Stands}
use Rattle.ox_wal.proofs.Recovering.{quiet_on}
use Rattle.ox_wal.proofs.Restarts.{if_ok_each, not_formatted, half_cases, dead_neither, neither_not_damaged, quiet_leaves, half_stands, never_dead, breaks_there, kept_stands, begin_leaves, if_ok, if_err, same_state, not_unformatted, not_damaged, stand_blank}
use Rattle.ox_journal.specs.ChainLaws.{one_of_on}
use Rattle.ox_wal.proofs.Turns.{quiet_among, quiet_turns, blank_among, made_turns, made_among, order_zero, order_one}
use Rattle.ox_wal.proofs.wal.Wal.recover.Goals as goal

pub returns-in-Ok-clause-stood : goal.returns-in-Ok-clause-stood
returns-in-Ok-clause-stood g c = λ told.
    let j = c.in-Ok.journal in
    if_ok c.replay.result (c.replay.ensures.moved told)
    (λ w m. inl (kept_stands _ _ _ _ _ _ _ (c.in-Ok.ensures.found told) j.halves _ _ _ _ (state_of w.log) m.2 m.3 (rw m.1 refl)))

pub returns-in-Ok-clause-found : goal.returns-in-Ok-clause-found
returns-in-Ok-clause-found g c = λ state told stands.
    let j = c.in-Ok.journal in
    elim stands [
      | inl holds ↦ if_ok c.replay.result (c.replay.ensures.held holds.payloads told (c.in-Ok.ensures.held holds.payloads told holds.holds))
          (λ w folds. same_state (state_of w.log) state (sym folds ∙ holds.folds))
      | inr dead ↦ absurd (never_dead _ _ _ _ _ _ _ (c.in-Ok.ensures.found told) j.halves dead.0 dead.1)
    ]

pub returns-in-Ok-clause-found_err : goal.returns-in-Ok-clause-found_err
returns-in-Ok-clause-found_err g c = λ state told stands.
    let j = c.in-Ok.journal in
    elim stands [
      | inl holds ↦ c.replay.ensures.held_err holds.payloads state told (c.in-Ok.ensures.held holds.payloads told holds.holds) holds.folds
      | inr dead ↦ absurd (never_dead _ _ _ _ _ _ _ (c.in-Ok.ensures.found told) j.halves dead.0 dead.1)
    ]

pub returns-in-Ok-clause-damaged : goal.returns-in-Ok-clause-damaged
returns-in-Ok-clause-damaged g c = λ told.
    let j = c.in-Ok.journal in
    if_err c.replay.result c.replay.ensures.damaged
    (λ e h half at is. let there = h half at is in breaks_there _ _ _ _ _ _ _ (c.in-Ok.ensures.found told) j.halves half at there.0 (there.1 told))

pub returns-in-Ok-clause-few_told : goal.returns-in-Ok-clause-few_told
returns-in-Ok-clause-few_told g c = λ told.
    let j = c.in-Ok.journal in
    if_err c.replay.result (c.replay.ensures.few_told told)
    (λ e h need have is. let f = h need have is in (f.1, inl (half_stands _ _ _ _ _ _ _ (c.in-Ok.ensures.found told) j.halves f.0 f.1 f.2 f.3), f.4))

pub returns-in-Ok-clause-any_moment_zero : goal.returns-in-Ok-clause-any_moment_zero
returns-in-Ok-clause-any_moment_zero g c = λ state told stand.
    let found = c.in-Ok.ensures.found told in
    if_ok c.replay.result (c.replay.ensures.moved told)
    (λ w m is.
    let q = found.zero (sym m.0 ∙ is) in
    let two : Quiet (g.D.Disk.shows c.args.second) (g.D.Disk.shows w.journal.spare) = rw m.1 q.two in
    quiet_leaves _ _ _ _ state stand (quiet_on _ _ _ q.one m.2) two)

pub returns-in-Ok-clause-any_moment_one : goal.returns-in-Ok-clause-any_moment_one
returns-in-Ok-clause-any_moment_one g c = λ state told stand.
    let found = c.in-Ok.ensures.found told in
    if_ok c.replay.result (c.replay.ensures.moved told)
    (λ w m is.
    let q = found.one (sym m.0 ∙ is) in
    let one : Quiet (g.D.Disk.shows c.args.first) (g.D.Disk.shows w.journal.spare) = rw m.1 q.one in
    quiet_leaves _ _ _ _ state stand one (quiet_on _ _ _ q.two m.2))

pub returns-in-Ok-clause-any_moment_err : goal.returns-in-Ok-clause-any_moment_err
returns-in-Ok-clause-any_moment_err g c = λ state told stand.
    let j = c.in-Ok.journal in
    let found = c.in-Ok.ensures.found told in
    elim (half_cases j.half j.halves) [
      | inl is ↦ if_err c.replay.result c.replay.ensures.zero
          (λ e h.
          let q = found.zero is in
          let z = h is in
          let two : Quiet (g.D.Disk.shows c.args.second) (g.D.Disk.shows e.2) = rw z.0 q.two in
          quiet_leaves _ _ _ _ state stand (quiet_on _ _ _ q.one (z.3 told)) two)
      | inr is ↦ if_err c.replay.result c.replay.ensures.one
          (λ e h.
          let q = found.one is in
          let z = h is in
          let one : Quiet (g.D.Disk.shows c.args.first) (g.D.Disk.shows e.1) = rw z.0 q.one in
          quiet_leaves _ _ _ _ state stand one (quiet_on _ _ _ q.two (z.3 told)))
    ]

pub returns-in-Err-Unformatted-default-default-clause-found : goal.returns-in-Err-Unformatted-default-default-clause-found
returns-in-Err-Unformatted-default-default-clause-found g c = λ state told stands.
    let f = c.in-Err-Unformatted-default-default in
    elim stands [
      | inl holds ↦ absurd (not_unformatted _ f.field-0-0-is (f.ensures.held_err holds.payloads told holds.holds))
      | inr dead ↦ if_ok c.begin.result c.begin.ensures.blank (λ w is. is ∙ sym dead.2)
    ]

pub returns-in-Err-Unformatted-default-default-clause-any_moment_zero : goal.returns-in-Err-Unformatted-default-default-clause-any_moment_zero
returns-in-Err-Unformatted-default-default-clause-any_moment_zero g c = λ state told stand.
    let f = c.in-Err-Unformatted-default-default in
    elim stand.seen [
      | inl holds ↦ absurd (not_unformatted _ f.field-0-0-is (f.ensures.held_err holds.payloads told holds.holds))
      | inr dead ↦ if_ok c.begin.result (c.begin.ensures.left told)
          (λ w m is. rw (m.0, dead.2) (begin_leaves _ _ _ _ (f.ensures.quiet told) (f.ensures.unformatted told f.field-0-0-is) _ m.1 (stand_blank _ _ state dead.2 stand)))
    ]

pub returns-in-Err-Unformatted-default-default-clause-any_moment_err : goal.returns-in-Err-Unformatted-default-default-clause-any_moment_err
returns-in-Err-Unformatted-default-default-clause-any_moment_err g c = λ state told stand.
    let f = c.in-Err-Unformatted-default-default in
    elim stand.seen [
      | inl holds ↦ absurd (not_unformatted _ f.field-0-0-is (f.ensures.held_err holds.payloads told holds.holds))
      | inr dead ↦ if_err c.begin.result (c.begin.ensures.left_err told)
          (λ e m. rw (m.0, dead.2) (begin_leaves _ _ _ _ (f.ensures.quiet told) (f.ensures.unformatted told f.field-0-0-is) _ m.1 (stand_blank _ _ state dead.2 stand)))
    ]

pub returns-in-Err-Damaged-default-default-clause-found_err : goal.returns-in-Err-Damaged-default-default-clause-found_err
returns-in-Err-Damaged-default-default-clause-found_err g c = λ state told stands.
    let f = c.in-Err-Damaged-default-default in
    elim stands [
      | inl holds ↦ absurd (not_damaged _ f.half f.at f.field-0-0-is (f.ensures.held_err holds.payloads told holds.holds))
      | inr dead ↦ absurd (neither_not_damaged _ f.half f.at (f.ensures.damaged told f.half f.at f.field-0-0-is) (dead_neither (g.D.Disk.shows c.args.first) (g.D.Disk.shows c.args.second) dead.0 dead.1))
    ]

pub returns-in-Ok-clause-later_zero : goal.returns-in-Ok-clause-later_zero
returns-in-Ok-clause-later_zero g c =
    if_ok c.replay.result c.replay.ensures.later
    (λ w m is.
    let was = c.in-Ok.ensures.zero (sym m.0 ∙ is) in
    let same : g.D.Disk.faults w.journal.spare ≡ g.D.Disk.faults c.in-Ok.journal.spare = ap g.D.Disk.faults m.1 in
    (omega (arith, was.0, m.2), omega (arith, was.1, same)))

pub returns-in-Ok-clause-later_one : goal.returns-in-Ok-clause-later_one
returns-in-Ok-clause-later_one g c =
    if_ok c.replay.result c.replay.ensures.later
    (λ w m is.
    let was = c.in-Ok.ensures.one (sym m.0 ∙ is) in
    let same : g.D.Disk.faults w.journal.spare ≡ g.D.Disk.faults c.in-Ok.journal.spare = ap g.D.Disk.faults m.1 in
    (omega (arith, was.0, m.2), omega (arith, was.1, same)))

pub returns-in-Ok-clause-later_err : goal.returns-in-Ok-clause-later_err
returns-in-Ok-clause-later_err g c =
    let j = c.in-Ok.journal in
    elim (half_cases j.half j.halves) [
      | inl is ↦ if_err c.replay.result c.replay.ensures.zero
          (λ e h.
          let was = c.in-Ok.ensures.zero is in
          let z = h is in
          let same : g.D.Disk.faults e.2 ≡ g.D.Disk.faults j.spare = ap g.D.Disk.faults z.0 in
          (omega (arith, was.0, z.1), omega (arith, was.1, same)))
      | inr is ↦ if_err c.replay.result c.replay.ensures.one
          (λ e h.
          let was = c.in-Ok.ensures.one is in
          let z = h is in
          let same : g.D.Disk.faults e.1 ≡ g.D.Disk.faults j.spare = ap g.D.Disk.faults z.0 in
          (omega (arith, was.1, same), omega (arith, was.0, z.1)))
    ]

pub returns-in-Err-Unformatted-default-default-clause-later_zero : goal.returns-in-Err-Unformatted-default-default-clause-later_zero
returns-in-Err-Unformatted-default-default-clause-later_zero g c =
    let f = c.in-Err-Unformatted-default-default in
    if_ok c.begin.result c.begin.ensures.later
    (λ w m is.
    let was = f.ensures.later_err in
    let same : g.D.Disk.faults w.journal.spare ≡ g.D.Disk.faults f.second = ap g.D.Disk.faults m.1 in
    (omega (arith, was.0, m.2), omega (arith, was.1, same)))

pub returns-in-Err-Unformatted-default-default-clause-later_one : goal.returns-in-Err-Unformatted-default-default-clause-later_one
returns-in-Err-Unformatted-default-default-clause-later_one g c =
    if_ok c.begin.result c.begin.ensures.later (λ w m is. absurd (omega (arith, m.0, is)))

pub returns-in-Err-Unformatted-default-default-clause-later_err : goal.returns-in-Err-Unformatted-default-default-clause-later_err
returns-in-Err-Unformatted-default-default-clause-later_err g c =
    let f = c.in-Err-Unformatted-default-default in
    if_err c.begin.result c.begin.ensures.later_err
    (λ e m.
    let was = f.ensures.later_err in
    let same : g.D.Disk.faults e.2 ≡ g.D.Disk.faults f.second = ap g.D.Disk.faults m.0 in
    (omega (arith, was.0, m.1), omega (arith, was.1, same)))

pub returns-in-Ok-clause-quiet_zero : goal.returns-in-Ok-clause-quiet_zero
returns-in-Ok-clause-quiet_zero g c = λ told.
    let found = c.in-Ok.ensures.found told in
    if_ok c.replay.result (c.replay.ensures.moved told)
    (λ w m formatted is.
    let q = found.zero (sym m.0 ∙ is) in
    let two : Quiet (g.D.Disk.shows c.args.second) (g.D.Disk.shows w.journal.spare) = rw m.1 q.two in
    record { one = quiet_on _ _ _ q.one m.2; two = two })

pub returns-in-Ok-clause-quiet_one : goal.returns-in-Ok-clause-quiet_one
returns-in-Ok-clause-quiet_one g c = λ told.
    let found = c.in-Ok.ensures.found told in
    if_ok c.replay.result (c.replay.ensures.moved told)
    (λ w m formatted is.
    let q = found.one (sym m.0 ∙ is) in
    let one : Quiet (g.D.Disk.shows c.args.first) (g.D.Disk.shows w.journal.spare) = rw m.1 q.one in
    record { one = one; two = quiet_on _ _ _ q.two m.2 })

pub returns-in-Ok-clause-quiet_err : goal.returns-in-Ok-clause-quiet_err
returns-in-Ok-clause-quiet_err g c = λ told.
    let j = c.in-Ok.journal in
    let found = c.in-Ok.ensures.found told in
    elim (half_cases j.half j.halves) [
      | inl is ↦ if_err c.replay.result c.replay.ensures.zero
          (λ e h formatted.
          let q = found.zero is in
          let z = h is in
          let two : Quiet (g.D.Disk.shows c.args.second) (g.D.Disk.shows e.2) = rw z.0 q.two in
          record { one = quiet_on _ _ _ q.one (z.3 told); two = two })
      | inr is ↦ if_err c.replay.result c.replay.ensures.one
          (λ e h formatted.
          let q = found.one is in
          let z = h is in
          let one : Quiet (g.D.Disk.shows c.args.first) (g.D.Disk.shows e.1) = rw z.0 q.one in
          record { one = one; two = quiet_on _ _ _ q.two (z.3 told) })
    ]

pub returns-in-Ok-clause-second_err : goal.returns-in-Ok-clause-second_err
returns-in-Ok-clause-second_err g c = λ told.
    let j = c.in-Ok.journal in
    let found = c.in-Ok.ensures.found told in
    elim (half_cases j.half j.halves) [
      | inl is ↦ if_err c.replay.result c.replay.ensures.zero (λ e h. let z = h is in rw z.0 (found.zero is).two)
      | inr is ↦ if_err c.replay.result c.replay.ensures.one (λ e h. let z = h is in quiet_on _ _ _ (found.one is).two (z.3 told))
    ]

pub returns-in-Err-Unformatted-default-default-clause-quiet_zero : goal.returns-in-Err-Unformatted-default-default-clause-quiet_zero
returns-in-Err-Unformatted-default-default-clause-quiet_zero g c = λ told.
    let f = c.in-Err-Unformatted-default-default in
    if_ok c.begin.result c.begin.ensures.blank (λ w is formatted. absurd (not_formatted _ _ _ _ (f.ensures.quiet told) (f.ensures.unformatted told f.field-0-0-is) formatted))

pub returns-in-Err-Unformatted-default-default-clause-quiet_one : goal.returns-in-Err-Unformatted-default-default-clause-quiet_one
returns-in-Err-Unformatted-default-default-clause-quiet_one g c = λ told.
    let f = c.in-Err-Unformatted-default-default in
    if_ok c.begin.result c.begin.ensures.blank (λ w is formatted. absurd (not_formatted _ _ _ _ (f.ensures.quiet told) (f.ensures.unformatted told f.field-0-0-is) formatted))

pub returns-in-Err-Unformatted-default-default-clause-quiet_err : goal.returns-in-Err-Unformatted-default-default-clause-quiet_err
returns-in-Err-Unformatted-default-default-clause-quiet_err g c = λ told.
    let f = c.in-Err-Unformatted-default-default in
    if_err c.begin.result c.begin.ensures.only (λ e is formatted. absurd (not_formatted _ _ _ _ (f.ensures.quiet told) (f.ensures.unformatted told f.field-0-0-is) formatted))

pub returns-in-Err-Unformatted-default-default-clause-second_err : goal.returns-in-Err-Unformatted-default-default-clause-second_err
returns-in-Err-Unformatted-default-default-clause-second_err g c = λ told.
    let f = c.in-Err-Unformatted-default-default in
    if_err c.begin.result (c.begin.ensures.left_err told) (λ e m. rw m.0 (f.ensures.quiet told).two)

pub returns-in-Ok-clause-in_turn : goal.returns-in-Ok-clause-in_turn
returns-in-Ok-clause-in_turn g c = λ states told stand.
    let j = c.in-Ok.journal in
    let found = c.in-Ok.ensures.found told in
    elim (half_cases j.half j.halves) [
      | inl is ↦ if_ok c.replay.result (c.replay.ensures.moved told)
          (λ w m.
          let q = found.zero is in
          let two : Quiet (g.D.Disk.shows c.args.second) (g.D.Disk.shows w.journal.spare) = rw m.1 q.two in
          rw (order_zero w.journal.half w.journal.live w.journal.spare (m.0 ∙ is)) (quiet_turns states g.D.Disk.shows c.args.first c.args.second stand _ _ (quiet_on _ _ _ q.one m.2) two))
      | inr is ↦ if_ok c.replay.result (c.replay.ensures.moved told)
          (λ w m.
          let q = found.one is in
          let one : Quiet (g.D.Disk.shows c.args.first) (g.D.Disk.shows w.journal.spare) = rw m.1 q.one in
          rw (order_one w.journal.half w.journal.live w.journal.spare (m.0 ∙ is)) (quiet_turns states g.D.Disk.shows c.args.first c.args.second stand _ _ one (quiet_on _ _ _ q.two m.2)))
    ]

pub returns-in-Ok-clause-in_turn_err : goal.returns-in-Ok-clause-in_turn_err
returns-in-Ok-clause-in_turn_err g c = λ states told stand.
    let j = c.in-Ok.journal in
    let found = c.in-Ok.ensures.found told in
    elim (half_cases j.half j.halves) [
      | inl is ↦ if_err c.replay.result c.replay.ensures.zero
          (λ e h.
          let q = found.zero is in
          let z = h is in
          let two : Quiet (g.D.Disk.shows c.args.second) (g.D.Disk.shows e.2) = rw z.0 q.two in
          quiet_turns states g.D.Disk.shows c.args.first c.args.second stand _ _ (quiet_on _ _ _ q.one (z.3 told)) two)
      | inr is ↦ if_err c.replay.result c.replay.ensures.one
          (λ e h.
          let q = found.one is in
          let z = h is in
          let one : Quiet (g.D.Disk.shows c.args.first) (g.D.Disk.shows e.1) = rw z.0 q.one in
          quiet_turns states g.D.Disk.shows c.args.first c.args.second stand _ _ one (quiet_on _ _ _ q.two (z.3 told)))
    ]

pub returns-in-Ok-clause-among : goal.returns-in-Ok-clause-among
returns-in-Ok-clause-among g c = λ states told stand.
    if_ok c.replay.result (if_ok_each (λ d. Stands (g.D.Disk.shows c.args.first).seen (g.D.Disk.shows c.args.second).seen d) (λ d w. state_of w.log ≡ d) c.replay.result (λ d stands. returns-in-Ok-clause-found g c d told stands))
    (λ w each. one_of_on states each stand.seen)

pub returns-in-Ok-clause-among_err : goal.returns-in-Ok-clause-among_err
returns-in-Ok-clause-among_err g c = λ states told stand.
    let j = c.in-Ok.journal in
    let found = c.in-Ok.ensures.found told in
    elim (half_cases j.half j.halves) [
      | inl is ↦ if_err c.replay.result c.replay.ensures.zero
          (λ e h.
          let q = found.zero is in
          let z = h is in
          let two : Quiet (g.D.Disk.shows c.args.second) (g.D.Disk.shows e.2) = rw z.0 q.two in
          quiet_among states _ _ _ _ stand (quiet_on _ _ _ q.one (z.3 told)) two)
      | inr is ↦ if_err c.replay.result c.replay.ensures.one
          (λ e h.
          let q = found.one is in
          let z = h is in
          let one : Quiet (g.D.Disk.shows c.args.first) (g.D.Disk.shows e.1) = rw z.0 q.one in
          quiet_among states _ _ _ _ stand one (quiet_on _ _ _ q.two (z.3 told)))
    ]

pub returns-in-Err-Unformatted-default-default-clause-in_turn_err : goal.returns-in-Err-Unformatted-default-default-clause-in_turn_err
returns-in-Err-Unformatted-default-default-clause-in_turn_err g c = λ states told stand.
    let f = c.in-Err-Unformatted-default-default in
    if_err c.begin.result (c.begin.ensures.left_err told)
    (λ e m. rw m.0 (made_turns states g.D.Disk.shows c.args.first c.args.second stand _ _ (f.ensures.quiet told) (f.ensures.unformatted told f.field-0-0-is)
    (λ d holds. not_unformatted _ f.field-0-0-is (f.ensures.held_err holds.payloads told holds.holds)) _ m.1))

pub returns-in-Err-Unformatted-default-default-clause-among_err : goal.returns-in-Err-Unformatted-default-default-clause-among_err
returns-in-Err-Unformatted-default-default-clause-among_err g c = λ states told stand.
    let f = c.in-Err-Unformatted-default-default in
    if_err c.begin.result (c.begin.ensures.left_err told)
    (λ e m. rw m.0 (made_among states g.D.Disk.shows c.args.first c.args.second stand _ _ (f.ensures.quiet told) (f.ensures.unformatted told f.field-0-0-is)
    (λ d holds. not_unformatted _ f.field-0-0-is (f.ensures.held_err holds.payloads told holds.holds)) _ m.1))

pub returns-in-Err-Unformatted-default-default-clause-in_turn : goal.returns-in-Err-Unformatted-default-default-clause-in_turn
returns-in-Err-Unformatted-default-default-clause-in_turn g c = λ states told stand.
    let f = c.in-Err-Unformatted-default-default in
    if_ok c.begin.result (c.begin.ensures.made told)
    (λ w m. rw (order_zero w.journal.half w.journal.live w.journal.spare m.0, m.1) (made_turns states g.D.Disk.shows c.args.first c.args.second stand _ _ (f.ensures.quiet told) (f.ensures.unformatted told f.field-0-0-is)
    (λ d holds. not_unformatted _ f.field-0-0-is (f.ensures.held_err holds.payloads told holds.holds)) _ m.2))

pub returns-in-Err-Unformatted-default-default-clause-among : goal.returns-in-Err-Unformatted-default-default-clause-among
returns-in-Err-Unformatted-default-default-clause-among g c = λ states told stand.
    let f = c.in-Err-Unformatted-default-default in
    if_ok c.begin.result c.begin.ensures.blank
    (λ w is. one_of_on states (λ d same. is ∙ same) (blank_among states g.D.Disk.shows c.args.first c.args.second stand _ _ (f.ensures.quiet told) (f.ensures.unformatted told f.field-0-0-is)
    (λ d holds. not_unformatted _ f.field-0-0-is (f.ensures.held_err holds.payloads told holds.holds))))

pub returns-in-Err-Damaged-default-default-clause-in_turn_err : goal.returns-in-Err-Damaged-default-default-clause-in_turn_err
returns-in-Err-Damaged-default-default-clause-in_turn_err g c = λ states told stand.
    let q = c.in-Err-Damaged-default-default.ensures.quiet told in
    quiet_turns states g.D.Disk.shows c.args.first c.args.second stand _ _ q.one q.two

pub returns-in-Err-Damaged-default-default-clause-among_err : goal.returns-in-Err-Damaged-default-default-clause-among_err
returns-in-Err-Damaged-default-default-clause-among_err g c = λ states told stand.
    let q = c.in-Err-Damaged-default-default.ensures.quiet told in
    quiet_among states _ _ _ _ stand q.one q.two

pub returns-in-Err-DiskFault-default-default-clause-in_turn_err : goal.returns-in-Err-DiskFault-default-default-clause-in_turn_err
returns-in-Err-DiskFault-default-default-clause-in_turn_err g c = λ states told stand.
    let q = c.in-Err-DiskFault-default-default.ensures.quiet told in
    quiet_turns states g.D.Disk.shows c.args.first c.args.second stand _ _ q.one q.two

pub returns-in-Err-DiskFault-default-default-clause-among_err : goal.returns-in-Err-DiskFault-default-default-clause-among_err
returns-in-Err-DiskFault-default-default-clause-among_err g c = λ states told stand.
    let q = c.in-Err-DiskFault-default-default.ensures.quiet told in
    quiet_among states _ _ _ _ stand q.one q.two

pub returns-in-Err-NoMemory-default-default-clause-in_turn_err : goal.returns-in-Err-NoMemory-default-default-clause-in_turn_err
returns-in-Err-NoMemory-default-default-clause-in_turn_err g c = λ states told stand.
    let q = c.in-Err-NoMemory-default-default.ensures.quiet told in
    quiet_turns states g.D.Disk.shows c.args.first c.args.second stand _ _ q.one q.two

pub returns-in-Err-NoMemory-default-default-clause-among_err : goal.returns-in-Err-NoMemory-default-default-clause-among_err
returns-in-Err-NoMemory-default-default-clause-among_err g c = λ states told stand.
    let q = c.in-Err-NoMemory-default-default.ensures.quiet told in
    quiet_among states _ _ _ _ stand q.one q.two
