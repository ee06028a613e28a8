use Rattle.std.proofs.Common.{◌≡◌, ◌∙◌, ◌+◌, ◌-◌, ◌++◌, List, length, take, drop, ap, sym, arith, length-take}
use Rattle.std.proofs.lemmas.List.{take_rest}
use Rattle.ox_types.specs.declared.log.Entry.{Entry}
use Rattle.ox_types.specs.declared.log.Seat.TheVariants.{Attached}
use Rattle.ox_types.specs.Durable.{DurableState, may_follow}
use Rattle.ox_wal.specs.Blocks.{blocks_used}
use Rattle.ox_wal.specs.State.{drafted_entries}
use Rattle.ox_wal.proofs.Following.{follow-take}
use Rattle.ox_wal.proofs.Drafts.{cut_staged, cut_staged_blocks}
use Rattle.ox_wal.proofs.log.Log.draft_cut_staged.Goals as goal

pub overflow_sub-draft : goal.overflow_sub-draft
overflow_sub-draft c =
    let items = c.args.self.now.entries.items in
    let draft = c.args.draft.now in
    let gone : c.in_ok-gone.gone ≡ blocks_used (drop c.args.left draft.staged.items) =
    c.in_ok-gone.ensures ∙ ap blocks_used (ap (λ (l : List Entry). take (length l - c.args.left) (drop c.args.left l)) c.deref.ensures.value ∙ take_rest draft.staged.items c.args.left) in
    omega (arith, cut_staged_blocks items draft.staged.items draft.keep c.args.left c.requires.is.keeps, c.requires.is.counted)

pub returns-clause-is : goal.returns-clause-is
returns-clause-is c =
    let log = c.args.self.now in
    let items = log.entries.items in
    let draft = c.args.draft.now in
    let left = c.args.left in
    let was = c.requires.is in
    let es = drafted_entries log draft in
    let front = take draft.keep items in
    let gone : c.in_ok-gone.gone ≡ blocks_used (drop left draft.staged.items) =
    c.in_ok-gone.ensures ∙ ap blocks_used (ap (λ (l : List Entry). take (length l - left) (drop left l)) c.deref.ensures.value ∙ take_rest draft.staged.items left) in
    let kept : front ++ c.truncate.new.self.items ≡ front ++ take left draft.staged.items = ap (λ (l : List Entry). front ++ l) c.truncate.ensures.items in
    let same : front ++ c.truncate.new.self.items ≡ take (draft.keep + left) es = kept ∙ sym (cut_staged items draft.staged.items draft.keep left was.keeps) in
    record {
      keeps = was.keeps;
      counted = omega (arith, ap blocks_used kept, cut_staged_blocks items draft.staged.items draft.keep left was.keeps, was.counted);
      follows = ap (λ (l : List Entry). may_follow draft.term log.base.term log.base.count l) same ∙ follow-take draft.term log.base.term log.base.count (draft.keep + left) es was.follows;
      small = omega (arith, ap length same, length-take (draft.keep + left) es, was.small);
    }

pub returns-clause-state : goal.returns-clause-state
returns-clause-state c =
    let log = c.args.self.now in
    let draft = c.args.draft.now in
    let front = take draft.keep log.entries.items in
    let made : List Entry → DurableState = λ l. record { term = draft.term; seat = Attached; base = log.base; saved = log.saved; entries = l } in
    ap made (ap (λ (l : List Entry). front ++ l) c.truncate.ensures.items ∙ sym (cut_staged log.entries.items draft.staged.items draft.keep c.args.left c.requires.is.keeps))
