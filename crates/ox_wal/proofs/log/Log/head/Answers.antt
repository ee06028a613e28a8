use Rattle.std.proofs.Common.{◌≡◌, ◌∙◌, ◌+◌, ℕ, length, sym, ap, arith}
use Rattle.std.proofs.lemmas.Grind.{common_steps}
use Rattle.ox_types.specs.declared.log.Head.{Head}
use Rattle.ox_wal.specs.Follow.{last_term}
use Rattle.ox_wal.proofs.TermRuns.{head_is}
use Rattle.ox_wal.proofs.log.Log.head.Goals as goal

pub returns : goal.returns
returns c =
    let log = c.args.self.now in
    let last : c.last_of.result ≡ last_term log.base.term log.entries.items = grind (arith, common_steps) in
    let size : c.len.result ≡ length log.entries.items = grind (arith, common_steps) in
    let made : ℕ → ℕ → Head = λ term n. record { term = term; count = log.base.count + n } in
    ap (λ (t : ℕ). made t c.len.result) last ∙ ap (λ (n : ℕ). made (last_term log.base.term log.entries.items) n) size
    ∙ sym (head_is log.term log.base log.entries.items log.follows)
