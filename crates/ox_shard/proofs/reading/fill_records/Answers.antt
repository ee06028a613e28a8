use Rattle.std.proofs.Common.{◌∙◌, sym, map, ◌∷◌, []}
use Rattle.std.proofs.lemmas.List.{map-append}
use Rattle.std.specs.Map.Iter.{deref_pair}
use Rattle.ox_ops.specs.declared.answer.Record.{Record}
use Rattle.ox_ops.specs.Page.{record_size}
use Rattle.ox_shard.proofs.Pages.{page-full, page-more, rest-more, page-done}
use Rattle.ox_shard.proofs.reading.fill_records.Goals as goal

pub returns-then-not-offer : goal.returns-then-not-offer
returns-then-not-offer c =
    let full = sym c.offer.ensures.answer ∙ c.if-not-offer.true in
    rw (c.offer.ensures.after, full) (page-full record_size (λ (r : Record). r) c.args.pairs (map deref_pair c.loop-found.yielded) c.loop-found.found-iterator c.next.new.self _ _ c.loop-found.page c.size.result c.size.ensures c.in-Some.ensures.steps c.loop-found.invariant.rest c.loop-found.invariant.page full)

pub loop-found-preserved : goal.loop-found-preserved
loop-found-preserved c =
    let room = sym c.offer.ensures.answer ∙ c.if-not-offer.false in
    let grown = map-append deref_pair c.loop-found.yielded ((c.in-Some.field-0-0, c.in-Some.found) ∷ []) in
    record {
      rest = rw grown (rest-more record_size (λ (r : Record). r) c.args.pairs (map deref_pair c.loop-found.yielded) c.loop-found.found-iterator c.next.new.self _ _ c.loop-found.page c.size.result c.size.ensures c.in-Some.ensures.steps c.loop-found.invariant.rest c.loop-found.invariant.page);
      page = rw (grown, c.in_ok-push.ensures.ok, c.in_ok-try_clone.ensures, c.offer.ensures.after, room) (page-more record_size (λ (r : Record). r) c.args.pairs (map deref_pair c.loop-found.yielded) c.loop-found.found-iterator c.next.new.self _ _ c.loop-found.page c.size.result c.size.ensures c.in-Some.ensures.steps c.loop-found.invariant.rest c.loop-found.invariant.page room);
    }

pub returns : goal.returns
returns c = page-done record_size (λ (r : Record). r) c.args.pairs (map deref_pair c.loop-found.yielded) c.loop-found.found-iterator c.loop-found.page c.in-None.ensures.steps.0 c.loop-found.invariant.rest c.loop-found.invariant.page
