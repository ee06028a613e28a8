use Rattle.std.proofs.Common.{◌≡◌, ◌∙◌, ◌+◌, ◌++◌, List, true, length, take, ap, sym, arith, append_assoc}
use Rattle.ox_types.specs.declared.log.Entry.{Entry}
use Rattle.ox_types.specs.Log.{head_from}
use Rattle.ox_types.specs.Durable.{may_follow}
use Rattle.ox_wal.specs.Blocks.{blocks_used}
use Rattle.ox_wal.specs.State.{drafted_entries}
use Rattle.ox_wal.proofs.Following.{append_follows, append_small}
use Rattle.ox_wal.proofs.Drafts.{blocks-append}
use Rattle.ox_wal.proofs.log.Log.draft_append.Goals as goal

pub returns-clause-is : goal.returns-clause-is
returns-clause-is c =
    let log = c.args.self.now in
    let draft = c.args.draft.now in
    let more = c.args.entries.now in
    let was = c.requires.is in
    let es = drafted_entries log draft in
    let front = take draft.keep log.entries.items in
    let same : front ++ c.copy_entries.new.to.items ≡ es ++ more =
    ap (λ (l : List Entry). front ++ l) c.in_ok-copy_entries.ensures ∙ sym (append_assoc front draft.staged.items more) in
    let ok : may_follow draft.term (head_from log.base es).term (log.base.count + length es) more ≡ true = cc in
    record {
      keeps = was.keeps;
      counted = omega (arith, ap blocks_used same, blocks-append es more, was.counted, c.in_ok-need.ensures);
      follows = ap (λ (l : List Entry). may_follow draft.term log.base.term log.base.count l) same ∙ append_follows draft.term log.base es more was.follows ok;
      small = omega (arith, ap length same, append_small draft.term log.base es more was.follows ok c.requires.spelled was.small);
    }
