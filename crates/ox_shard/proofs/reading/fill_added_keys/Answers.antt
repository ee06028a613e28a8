use Rattle.std.proofs.Common.{◌∙◌, sym, refl, subst, List, map}
use Rattle.std.proofs.lemmas.List.{map-append, take_all}
use Rattle.ox_ops.specs.Page.{key_size}
use Rattle.ox_ops.specs.Filling.{Holds}
use Rattle.ox_index.specs.declared.added.Added.{Added}
use Rattle.ox_shard.proofs.Pages.{entry-full, entry-room}
use Rattle.ox_shard.proofs.reading.fill_added_keys.Goals as goal

pub returns-then-not-offer : goal.returns-then-not-offer
returns-then-not-offer c =
    let full = sym c.offer.ensures.answer ∙ c.if-not-offer.true in
    rw (c.offer.ensures.after, full) (entry-full key_size (map (λ (a : Added). a.key)) refl (map-append (λ (a : Added). a.key)) c.args.entries.now c.loop-added.added-index c.added-item.result c.loop-added-test.true c.added-item.is c.added-item.result.key (λ ys. refl) c.loop-added.page c.size.result c.size.ensures c.loop-added.invariant full)

pub loop-added-preserved : goal.loop-added-preserved
loop-added-preserved c =
    let room = sym c.offer.ensures.answer ∙ c.if-not-offer.false in
    rw (c.in_ok-push.ensures.ok, c.in_ok-try_clone.ensures, c.offer.ensures.after, room) (entry-room key_size (map (λ (a : Added). a.key)) refl (map-append (λ (a : Added). a.key)) c.args.entries.now c.loop-added.added-index c.added-item.result c.loop-added-test.true c.added-item.is c.added-item.result.key (λ ys. refl) c.loop-added.page c.size.result c.size.ensures c.loop-added.invariant room)

pub returns : goal.returns
returns c = subst (λ (xs : List Added). Holds key_size c.loop-added.page (map (λ (a : Added). a.key) xs)) (take_all c.loop-added.added-index c.args.entries.now c.loop-added-test.false) c.loop-added.invariant
