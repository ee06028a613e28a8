use Rattle.std.proofs.Common.{◌≡◌, ◌<◌, ◌∙◌, Some, None, ap, sym, subst, length}
use Rattle.std.proofs.lemmas.Result.{IfOk-weaker}
use Rattle.std.specs.Option.{option_copied}
use Rattle.ox_puts.specs.Search.{IsLast, Sees}
use Rattle.ox_puts.proofs.Greatest.{from_greatest, at_greatest, from_seen, ahead_seen, ahead, greatest-is, low-is, nothing-is, lt_case}
use Rattle.std.proofs.lemmas.List.{length-replicate}
use Rattle.ox_puts.proofs.Groups.{numbers_of-is}
use Rattle.ox_puts.proofs.search.last_numbers.Goals as goal

pub loop-found-init : goal.loop-found-init
loop-found-init c =
    from_greatest c.args.prefix.now c.args.count c.args.table.now c.find-found.ensures.rising _ c.in_ok-greatest.greatest
    (λ q ms there. at_greatest c.args.prefix.now c.args.count q ms c.in_ok-greatest.greatest c.in_ok-greatest.ensures there)
    c.find-found.ensures.found

pub returns-then-lt-clause-numbers : goal.returns-then-lt-clause-numbers
returns-then-lt-clause-numbers c =
    let last = subst (IsLast c.args.prefix.now c.args.count c.args.table.now) (ap option_copied c.in-Some.is) c.loop-found.invariant in
    let low = low-is c.args.prefix.now c.args.count c.args.table.now c.in-Some.kept.now c.in_ok-lowest.lowest last c.in_ok-lowest.ensures (lt_case _ (sym c.lt.ensures ∙ c.if-lt.true)) in
    IfOk-weaker c.repeated.result _ _ (λ numbers e. e ∙ sym low) c.repeated.ensures

pub returns-then-lt-clause-count : goal.returns-then-lt-clause-count
returns-then-lt-clause-count c = IfOk-weaker c.repeated.result _ _ (λ numbers e. ap length e ∙ length-replicate c.args.count 0) c.repeated.ensures

pub returns-in-Numbers-clause-count : goal.returns-in-Numbers-clause-count
returns-in-Numbers-clause-count c =
    let it = numbers_of-is c.args.prefix.now c.args.count c.in-Some.kept.now.key c.in-Numbers.numbers (subst (Sees c.args.prefix.now c.args.count c.in-Some.kept.now.key) c.in-Numbers.is c.in_ok-numbers.ensures) in
    it.count

pub returns-in-Numbers-clause-numbers : goal.returns-in-Numbers-clause-numbers
returns-in-Numbers-clause-numbers c =
    let last = subst (IsLast c.args.prefix.now c.args.count c.args.table.now) (ap option_copied c.in-Some.is) c.loop-found.invariant in
    sym (greatest-is c.args.prefix.now c.args.count c.args.table.now c.in-Some.kept.now c.in-Numbers.numbers last (subst (Sees c.args.prefix.now c.args.count c.in-Some.kept.now.key) c.in-Numbers.is c.in_ok-numbers.ensures))

pub loop-found-smaller : goal.loop-found-smaller
loop-found-smaller c =
    subst (λ o. ahead c.args.table.now (option_copied c.next-found.result) < ahead c.args.table.now o) (sym (ap option_copied c.in-Some.is))
    (ahead_seen c.args.prefix.now c.args.count c.args.table.now c.in-Some.kept.now c.in_ok-numbers.field-0 c.in-Other.cut _ c.in_ok-numbers.ensures c.in-Other.is c.next-found.ensures)

pub loop-found-preserved : goal.loop-found-preserved
loop-found-preserved c =
    let last = subst (IsLast c.args.prefix.now c.args.count c.args.table.now) (ap option_copied c.in-Some.is) c.loop-found.invariant in
    from_seen c.args.prefix.now c.args.count c.args.table.now c.find-found.ensures.rising c.in-Some.kept.now c.in_ok-numbers.field-0 c.in-Other.cut _ last c.in_ok-numbers.ensures c.in-Other.is c.next-found.ensures

pub returns-clause-numbers : goal.returns-clause-numbers
returns-clause-numbers c =
    let last = subst (IsLast c.args.prefix.now c.args.count c.args.table.now) (ap option_copied c.in_default.is) c.loop-found.invariant in
    IfOk-weaker c.repeated-2.result _ _ (λ numbers e. e ∙ sym (nothing-is c.args.prefix.now c.args.count c.args.table.now last)) c.repeated-2.ensures

pub returns-clause-count : goal.returns-clause-count
returns-clause-count c = IfOk-weaker c.repeated-2.result _ _ (λ numbers e. ap length e ∙ length-replicate c.args.count 0) c.repeated-2.ensures
