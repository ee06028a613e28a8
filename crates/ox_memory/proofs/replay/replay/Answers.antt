use Rattle.std.proofs.Common.{ℕ, ◌≡◌, ◌+◌, ◌≤◌, ◌-◌, ◌∙◌, ◌∷◌, take, drop, ap, arith, length, vec_capacity, List}
use Rattle.ox_memory.specs.Log.{put}
use Rattle.ox_memory.specs.declared.log.Call.{Call}
use Rattle.ox_memory.specs.declared.log.Call.TheVariants.{Write}
use Rattle.ox_memory.proofs.Placing.{first_of, within, next_put, ok_gives}
use Rattle.ox_memory.proofs.replay.replay.Goals as goal

pub loop-left-preserved-in-Write : goal.loop-left-preserved-in-Write
loop-left-preserved-in-Write c =
    let left = c.loop-left.left.now in
    let inv = c.loop-left.invariant in
    let call : Call = c.call-item.result in
    let is : left ≡ call ∷ take (length left - 1) (drop 1 left) = first_of left call c.in-len1-up.len_at_least c.call-item.is in
    let call_is : call ≡ Write c.in-Write.at c.in-Write.bytes = c.in-Write.is in
    let cons : left ≡ Write c.in-Write.at c.in-Write.bytes ∷ take (length left - 1) (drop 1 left) = is ∙ ap (λ (x : Call). x ∷ take (length left - 1) (drop 1 left)) call_is in
    let end : c.in-Write.at + length c.in-Write.bytes ≤ vec_capacity c.loop-left.file = within c.loop-left.file.items left _ _ _ cons inv.fits _ inv.end in
    let bytes_are : c.as_slice.result.now ≡ c.in-Write.bytes = c.as_slice.ensures in
    let size : length c.as_slice.result.now ≡ length c.in-Write.bytes = ap length bytes_are in
    let done : c.put.new.file.items ≡ put c.loop-left.file.items c.in-Write.at c.as_slice.result.now = ok_gives _ c.put.result (c.put.ensures.enough (omega arith)) c.put.ensures.put in
    let next = next_put c.loop-left.file.items left _ _ _ cons inv.fits c.put.new.file.items (done ∙ ap (λ (b : List ℕ). put c.loop-left.file.items c.in-Write.at b) bytes_are) in
    let long = ap length next.0 in
    let capacity = c.put.ensures.capacity in
    record { same = next.0 ∙ inv.same; fits = next.1; room = c.put.ensures.room; capacity = omega arith; end = omega arith }
