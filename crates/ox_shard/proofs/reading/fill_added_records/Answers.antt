use Rattle.std.proofs.Common.{◌≡◌, ◌∙◌, sym, refl, subst, Option, Some, None, List}
use Rattle.std.specs.List.{filter_map}
use Rattle.std.proofs.lemmas.List.{take_all}
use Rattle.std.proofs.lemmas.List.Elements.{filter_map-append}
use Rattle.ox_ops.specs.declared.answer.Record.{Record}
use Rattle.ox_ops.specs.State.{record_of}
use Rattle.ox_ops.specs.Page.{record_size}
use Rattle.ox_ops.specs.Filling.{Holds}
use Rattle.ox_index.specs.declared.added.Added.{Added}
use Rattle.ox_shard.proofs.Entries.{first_is_found}
use Rattle.ox_shard.proofs.Pages.{entry-full, entry-room, entry-skip, one-found}
use Rattle.ox_shard.proofs.reading.fill_added_records.Goals as goal

pub returns-then-not-offer : goal.returns-then-not-offer
returns-then-not-offer c =
    let full = sym c.offer.ensures.answer ∙ c.if-not-offer.true in
    let f : Added → Option Record = λ a. record_of a.key c.args.records.now.records in
    let here : f c.added-item.result ≡ Some c.in-Some.found.now = sym (c.in-Some.ensures.found ∙ first_is_found _ c.args.records.now.records) in
    rw (c.offer.ensures.after, full) (entry-full record_size (filter_map f) refl (filter_map-append f) c.args.entries.now c.loop-added.added-index c.added-item.result c.loop-added-test.true c.added-item.is c.in-Some.found.now (one-found f c.added-item.result c.in-Some.found.now here) c.loop-added.page c.size.result c.size.ensures c.loop-added.invariant full)

pub loop-added-preserved : goal.loop-added-preserved
loop-added-preserved c =
    let room = sym c.offer.ensures.answer ∙ c.if-not-offer.false in
    let f : Added → Option Record = λ a. record_of a.key c.args.records.now.records in
    let here : f c.added-item.result ≡ Some c.in-Some.found.now = sym (c.in-Some.ensures.found ∙ first_is_found _ c.args.records.now.records) in
    rw (c.in_ok-push-in-Some.ensures.ok, c.in_ok-try_clone-in-Some.ensures, c.offer.ensures.after, room) (entry-room record_size (filter_map f) refl (filter_map-append f) c.args.entries.now c.loop-added.added-index c.added-item.result c.loop-added-test.true c.added-item.is c.in-Some.found.now (one-found f c.added-item.result c.in-Some.found.now here) c.loop-added.page c.size.result c.size.ensures c.loop-added.invariant room)

pub loop-added-preserved-in-None : goal.loop-added-preserved-in-None
loop-added-preserved-in-None c =
    let f : Added → Option Record = λ a. record_of a.key c.args.records.now.records in
    let none : f c.added-item.result ≡ None = sym (c.in-None.ensures.found ∙ first_is_found _ c.args.records.now.records) in
    subst (λ (rs : List Record). Holds record_size c.loop-added.page rs) (entry-skip f c.args.entries.now c.loop-added.added-index c.added-item.result c.loop-added-test.true c.added-item.is none) c.loop-added.invariant

pub returns : goal.returns
returns c = subst (λ (xs : List Added). Holds record_size c.loop-added.page (filter_map (λ (a : Added). record_of a.key c.args.records.now.records) xs)) (take_all c.loop-added.added-index c.args.entries.now c.loop-added-test.false) c.loop-added.invariant
