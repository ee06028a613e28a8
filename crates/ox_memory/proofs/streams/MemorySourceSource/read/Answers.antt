use Rattle.std.proofs.Common.{◌≡◌, ◌∙◌, ◌++◌, ℕ, List, length, take, drop, ap}
use Rattle.ox_memory.proofs.Taken.{taken}
use Rattle.ox_memory.proofs.streams.MemorySourceSource.read.Goals as goal

pub returns-clause-bytes : goal.returns-clause-bytes
returns-clause-bytes c =
    let bytes = c.args.self.now.bytes.items in
    let at = c.args.self.now.taken in
    let rest : c.rest_of.result.now ≡ drop at bytes = c.rest_of.ensures ∙ ap (λ (l : List ℕ). drop at l) c.deref.ensures.value in
    taken bytes c.args.into.now _ at _ (c.copy_front-n.ensures.count ∙ ap (λ (l : List ℕ). length (take (length c.args.into.now) l)) rest)
    (c.copy_front-n.ensures.bytes ∙ ap (λ (l : List ℕ). take (length c.args.into.now) l ++ drop c.copy_front-n.result c.args.into.now) rest)
