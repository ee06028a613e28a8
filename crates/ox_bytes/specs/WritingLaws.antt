-- What was written stays in front of what is written behind it.
use Rattle.std.proofs.Common.{◌≡◌, ◌∙◌, ap, sym, ℕ, List, [], ◌++◌, append_assoc, Result, Ok, Err}
use Rattle.std.proofs.lemmas.List.{append-nil}
use Rattle.std.specs.Result.{OnOk, OnErr}
use Rattle.ox_bytes.specs.Writing.{IsFront, Puts}

pub front_same : (a b : List ℕ) → b ≡ a → IsFront a b
front_same a b e = record { more = []; is = e ∙ sym (append-nil a) }

pub front_more : (a b x : List ℕ) → b ≡ a ++ x → IsFront a b
front_more a b x e = record { more = x; is = e }

-- what stands behind a front is a front of no less
pub front_behind : (a b c x : List ℕ) → b ≡ a ++ x → IsFront b c → IsFront a c
front_behind a b c x e h = record { more = x ++ h.more; is = h.is ∙ ap (λ (l : List ℕ). l ++ h.more) e ∙ append_assoc a x h.more }

-- a call that leaves the writer as it was
pub puts_all : {X E : Type 0} (r : Result X E) (old new text : List ℕ) → OnOk r (new ≡ old ++ text) → OnErr r (new ≡ old) → Puts r old new text
puts_all (Ok x) old new text ok err = ok
puts_all (Err e) old new text ok err = front_same old new err

-- what stays in front, for the tactics
pub ruleset fronts = (front_same, front_behind)
