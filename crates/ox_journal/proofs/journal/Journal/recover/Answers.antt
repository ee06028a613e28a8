use Rattle.std.proofs.Common.{◌∙◌, sym}
use Rattle.ox_journal.proofs.Chosen.{found_zero, found_one, held_zero, held_one, held_neither, held_damaged}
use Rattle.ox_journal.proofs.journal.Journal.recover.Goals as goal

pub returns-then-half-eq0-clause-found : goal.returns-then-half-eq0-clause-found
returns-then-half-eq0-clause-found g c told =
    found_zero _ _ _ _ _ _ (c.look.ensures.quiet_first told) (c.look.ensures.quiet_second told) (c.in-Ok-Live.ensures.synced_first told) (c.in-Ok-Live.ensures.synced_second told)
    (sym (c.in-Ok-Live.ensures.told told) ∙ c.in-Ok-Live.field-0-is) c.if-half-eq0.true

pub returns-else-half-eq0-clause-found : goal.returns-else-half-eq0-clause-found
returns-else-half-eq0-clause-found g c told =
    found_one _ _ _ _ _ _ (c.look.ensures.quiet_first told) (c.look.ensures.quiet_second told) (c.in-Ok-Live.ensures.synced_first told) (c.in-Ok-Live.ensures.synced_second told)
    (sym (c.in-Ok-Live.ensures.told told) ∙ c.in-Ok-Live.field-0-is) c.if-half-eq0.false

pub returns-then-half-eq0-clause-held : goal.returns-then-half-eq0-clause-held
returns-then-half-eq0-clause-held g c payloads told holds =
    held_zero (g.D.Disk.shows c.args.first) (g.D.Disk.shows c.args.second) payloads _ _ _ holds (sym (c.in-Ok-Live.ensures.told told) ∙ c.in-Ok-Live.field-0-is) c.if-half-eq0.true (c.look.ensures.quiet_first told)

pub returns-else-half-eq0-clause-held : goal.returns-else-half-eq0-clause-held
returns-else-half-eq0-clause-held g c payloads told holds =
    held_one (g.D.Disk.shows c.args.first) (g.D.Disk.shows c.args.second) payloads _ _ _ holds (sym (c.in-Ok-Live.ensures.told told) ∙ c.in-Ok-Live.field-0-is) c.if-half-eq0.false (c.look.ensures.quiet_second told)

pub returns-in-Ok-Neither-clause-held_err : goal.returns-in-Ok-Neither-clause-held_err
returns-in-Ok-Neither-clause-held_err g c payloads told holds =
    absurd (held_neither (g.D.Disk.shows c.args.first) (g.D.Disk.shows c.args.second) payloads holds (sym (c.in-Ok-Neither.ensures.told told) ∙ c.in-Ok-Neither.field-0-is))

pub returns-in-Ok-Damaged-clause-held_err : goal.returns-in-Ok-Damaged-clause-held_err
returns-in-Ok-Damaged-clause-held_err g c payloads told holds =
    absurd (held_damaged (g.D.Disk.shows c.args.first) (g.D.Disk.shows c.args.second) payloads _ _ holds (sym (c.in-Ok-Damaged.ensures.told told) ∙ c.in-Ok-Damaged.field-0-is))
