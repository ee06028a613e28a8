use Rattle.std.proofs.Common.{◌≡◌, ◌∙◌, take}
use Rattle.std.proofs.lemmas.Grind.{common_steps}
use Rattle.std.proofs.Common.{arith}
use Rattle.ox_wal.specs.Follow.{last_term}
use Rattle.ox_wal.proofs.Following.{head_drafted}
use Rattle.ox_wal.proofs.log.Log.drafted_term.Goals as goal

pub returns : goal.returns
returns c =
    let log = c.args.self.now in
    let draft = c.args.draft.now in
    let front = take draft.keep log.entries.items in
    let kept : c.last_of-kept.result ≡ last_term log.base.term front = grind (arith, common_steps) in
    let whole : c.last_of.result ≡ last_term (last_term log.base.term front) draft.staged.items = grind (arith, common_steps) in
    whole ∙ head_drafted log.base front draft.staged.items
