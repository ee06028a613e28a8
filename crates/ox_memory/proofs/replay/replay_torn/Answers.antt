use Rattle.std.proofs.Common.{replicate, ℕ, ◌≡◌, ◌+◌, ◌≤◌, ◌-◌, ◌∙◌, ◌∷◌, take, drop, ap, arith, length, vec_capacity}
use Rattle.ox_memory.specs.Log.{put}
use Rattle.ox_memory.specs.declared.log.Call.{Call}
use Rattle.ox_memory.specs.declared.log.Call.TheVariants.{Write}
use Rattle.ox_memory.proofs.Placing.{first_of, within, next_torn}
use Rattle.ox_memory.proofs.replay.replay_torn.Goals as goal

pub loop-left-preserved-in-Write : goal.loop-left-preserved-in-Write
loop-left-preserved-in-Write c =
    let left = c.loop-left.left.now in
    let inv = c.loop-left.invariant in
    let call : Call = c.call-item.result in
    let is : left ≡ call ∷ take (length left - 1) (drop 1 left) = first_of left call c.in-len1-up.len_at_least c.call-item.is in
    let call_is : call ≡ Write c.in-Write.at c.in-Write.bytes = c.in-Write.is in
    let cons : left ≡ Write c.in-Write.at c.in-Write.bytes ∷ take (length left - 1) (drop 1 left) = is ∙ ap (λ (x : Call). x ∷ take (length left - 1) (drop 1 left)) call_is in
    let end : c.in-Write.at + length c.in-Write.bytes ≤ vec_capacity c.loop-left.file = within c.loop-left.file.items left _ _ _ cons inv.fits _ inv.end in
    let size : c.len.result ≡ length c.in-Write.bytes = c.len.ensures in
    let next = next_torn c.loop-left.file.items left _ _ _ cons inv.fits c.put_ones.new.file.items (c.put_ones.ensures.put ∙ ap (λ (n : ℕ). put c.loop-left.file.items c.in-Write.at (replicate n 1)) size) in
    let capacity = c.put_ones.ensures.capacity in
    let room : length c.put_ones.new.file.items ≤ vec_capacity c.put_ones.new.file = c.put_ones.ensures.room in
    record { same = next.0 ∙ inv.same; fits = next.1; room = room; capacity = omega arith; end = omega arith; long = next.2 ∙ inv.long }

pub put_ones-requires-clause-end : goal.put_ones-requires-clause-end
put_ones-requires-clause-end c =
    let left = c.loop-left.left.now in
    let inv = c.loop-left.invariant in
    let call : Call = c.call-item.result in
    let is : left ≡ call ∷ take (length left - 1) (drop 1 left) = first_of left call c.in-len1-up.len_at_least c.call-item.is in
    let call_is : call ≡ Write c.in-Write.at c.in-Write.bytes = c.in-Write.is in
    let cons : left ≡ Write c.in-Write.at c.in-Write.bytes ∷ take (length left - 1) (drop 1 left) = is ∙ ap (λ (x : Call). x ∷ take (length left - 1) (drop 1 left)) call_is in
    let end : c.in-Write.at + length c.in-Write.bytes ≤ vec_capacity c.loop-left.file = within c.loop-left.file.items left _ _ _ cons inv.fits _ inv.end in
    let size : c.len.result ≡ length c.in-Write.bytes = c.len.ensures in
    omega arith
