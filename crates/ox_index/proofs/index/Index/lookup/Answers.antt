use Rattle.std.proofs.Common.{◌∙◌, ap}
use Rattle.std.specs.Option.{option_map}
use Rattle.ox_index.specs.declared.added.Added.{Added}
use Rattle.ox_index.proofs.Keys.{found_key}
use Rattle.ox_index.proofs.index.Index.lookup.Goals as goal

pub returns-in-Some-clause-key : goal.returns-in-Some-clause-key
returns-in-Some-clause-key c =
    rw (← c.self.view_is, ← c.deref.ensures.value) (ap (option_map (λ (a : Added). a.key)) c.in-Some.ensures ∙ found_key c.args.name.now c.args.compare c.args.key.now c.deref.result.now)

pub returns-in-None-clause-key : goal.returns-in-None-clause-key
returns-in-None-clause-key c =
    rw (← c.self.view_is, ← c.deref.ensures.value) (ap (option_map (λ (a : Added). a.key)) c.in-None.ensures ∙ found_key c.args.name.now c.args.compare c.args.key.now c.deref.result.now)
