use Rattle.std.proofs.Common.{◌≡◌, ◌∙◌, ◌-◌, ◌++◌, List, [], length, take, drop, ap, sym, arith, rules, length-take}
use Rattle.std.proofs.lemmas.List.{append-nil}
use Rattle.ox_types.specs.declared.log.Entry.{Entry}
use Rattle.ox_types.specs.Durable.{may_follow}
use Rattle.ox_wal.specs.Blocks.{blocks_used}
use Rattle.ox_wal.specs.State.{drafted_entries}
use Rattle.ox_wal.proofs.Following.{follow-take}
use Rattle.ox_wal.proofs.Drafts.{cut_kept, cut_kept_blocks}
use Rattle.ox_wal.proofs.log.Log.draft_cut_kept.Goals as goal

pub overflow_sub-draft-2 : goal.overflow_sub-draft-2
overflow_sub-draft-2 c =
    let items = c.args.self.now.entries.items in
    let draft = c.args.draft.now in
    let gone : c.in_ok-gone.gone ≡ blocks_used (take (draft.keep - c.args.left) (drop c.args.left items)) = search rules in
    let staged : c.in_ok-staged.staged ≡ blocks_used draft.staged.items = search rules in
    omega (arith, cut_kept_blocks items draft.staged.items c.args.left draft.keep c.requires.within c.requires.is.keeps, c.requires.is.counted)

pub returns-clause-is : goal.returns-clause-is
returns-clause-is c =
    let log = c.args.self.now in
    let items = log.entries.items in
    let draft = c.args.draft.now in
    let left = c.args.left in
    let was = c.requires.is in
    let es = drafted_entries log draft in
    let gone : c.in_ok-gone.gone ≡ blocks_used (take (draft.keep - left) (drop left items)) = search rules in
    let staged : c.in_ok-staged.staged ≡ blocks_used draft.staged.items = search rules in
    let none : take left items ++ c.clear.new.self.items ≡ take left items ++ [] = ap (λ (l : List Entry). take left items ++ l) c.clear.ensures.items in
    let same : take left items ++ c.clear.new.self.items ≡ take left es = none ∙ sym (cut_kept items draft.staged.items left draft.keep c.requires.within was.keeps) in
    let fewer : blocks_used (take left items ++ c.clear.new.self.items) ≡ blocks_used (take left items) = ap blocks_used (none ∙ append-nil (take left items)) in
    record {
      keeps = let keeps = was.keeps in omega arith;
      counted = omega (arith, fewer, cut_kept_blocks items draft.staged.items left draft.keep c.requires.within was.keeps, was.counted);
      follows = ap (λ (l : List Entry). may_follow draft.term log.base.term log.base.count l) same ∙ follow-take draft.term log.base.term log.base.count left es was.follows;
      small = omega (arith, ap length same, length-take left es, was.small);
    }
