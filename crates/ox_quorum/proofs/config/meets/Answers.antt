use Rattle.std.proofs.Common.{◌≡◌, sym, ◌∙◌}
use Rattle.ox_quorum.specs.Ensemble.{has}
use Rattle.ox_quorum.specs.Quorum.{meets_config}
use Rattle.ox_quorum.proofs.Quorums.{quorum_told, quorum_tells}
use Rattle.ox_quorum.proofs.config.meets.Goals as goal

pub returns-then-has_majority-clause-tested : goal.returns-then-has_majority-clause-tested
returns-then-has_majority-clause-tested c =
    rw (c.in-Joint.is, sym c.has_majority-in-Joint.ensures, c.if-has_majority.true) c.has_majority-then-has_majority.ensures

pub returns-then-has_majority-clause-meets : goal.returns-then-has_majority-clause-meets
returns-then-has_majority-clause-meets c =
    let tested : c.has_majority-then-has_majority.result ≡ meets_config (has c.args.nodes.now) c.args.config.now =
    rw (c.in-Joint.is, sym c.has_majority-in-Joint.ensures, c.if-has_majority.true) c.has_majority-then-has_majority.ensures in
    (λ h. quorum_told _ c.args.config.now (sym tested ∙ h), λ h. tested ∙ quorum_tells _ c.args.config.now h)
