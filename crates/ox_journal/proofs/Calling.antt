-- Counts of calls.
use Rattle.std.proofs.Common.{◌≡◌, ℕ, zero, suc, ◌+◌, ◌-◌, ◌%◌, ◌^◌, ◌<◌, ◌≤◌, min, List, length, take, drop, sym, ◌∙◌, subst, arith, length-drop}
use Rattle.std.proofs.lemmas.List.{length-take-le}
use Rattle.std.specs.Prelude.{◌/◌}
use Rattle.ox_outside.specs.Disk.{Shown}
use Rattle.ox_journal.specs.Calls.{Calls}

-- some calls and then more
pub calls_on : (n m : ℕ) (a b c : Shown) → Calls n a b → Calls m b c → Calls (n + m) a c
calls_on zero zero a b c one two = two ∙ one
calls_on zero (suc m) a b c one two = let is : b.calls ≡ a.calls = one in let more : c.calls ≡ min (b.calls + suc m) (2 ^ 64 - 1) = two in
    let same : 0 + suc m ≡ suc m = omega arith in subst (λ (k : ℕ). Calls k a c) (sym same) (omega arith)
calls_on (suc n) zero a b c one two = let is : c.calls ≡ b.calls = two in let some : b.calls ≡ min (a.calls + suc n) (2 ^ 64 - 1) = one in
    let same : suc n + 0 ≡ suc n = omega arith in subst (λ (k : ℕ). Calls k a c) (sym same) (omega arith)
calls_on (suc n) (suc m) a b c one two = let some : b.calls ≡ min (a.calls + suc n) (2 ^ 64 - 1) = one in let more : c.calls ≡ min (b.calls + suc m) (2 ^ 64 - 1) = two in
    let same : suc n + suc m ≡ suc (n + suc m) = omega arith in subst (λ (k : ℕ). Calls k a c) (sym same) (omega arith)

pub same_calls : (n m : ℕ) (a b : Shown) → n ≡ m → Calls n a b → Calls m a b
same_calls n m a b is calls = subst (λ (k : ℕ). Calls k a b) is calls

-- a piece of some bytes
pub piece_long : (bytes : List ℕ) (at end : ℕ) → end ≤ length bytes → at < end → at + length (take (end - at) (drop at bytes)) ≡ end
piece_long bytes at end within later =
    let dropped : length (drop at bytes) ≡ length bytes - at = length-drop at bytes in
    let taken : length (take (end - at) (drop at bytes)) ≡ end - at = length-take-le (end - at) (drop at bytes) (omega arith) in
    omega arith

-- what waits after more bytes came to a text whose front was written in pieces
pub pieces_rest : (first at end more waits : ℕ) → waits ≡ (first + at) % 1048576 → at + more ≡ end → (waits + more) % 1048576 ≡ (first + end) % 1048576
pieces_rest first at end more waits is sum = omega arith

pub pieces_calls : (first at end more waits : ℕ) (a b c : Shown) → waits ≡ (first + at) % 1048576 → at + more ≡ end → Calls ((first + at) / 1048576) a b → Calls ((waits + more) / 1048576) b c → Calls ((first + end) / 1048576) a c
pieces_calls first at end more waits a b c is sum one two =
    let count : (first + at) / 1048576 + (waits + more) / 1048576 ≡ (first + end) / 1048576 = omega arith in
    same_calls _ _ a c count (calls_on _ _ a b c one two)
