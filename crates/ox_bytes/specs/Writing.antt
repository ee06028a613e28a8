-- Writing from left to right, and what is there when memory runs out.
use Rattle.std.specs.Prelude.{◌≡◌, ◌++◌, ℕ, List, Result, Ok, Err}

-- the whole begins with the front
pub record IsFront (front whole : List ℕ) : Type 0 where
  pub more : List ℕ
  pub is : whole ≡ front ++ more

-- the text was written behind what stood there, which stays in front also where memory ran out
abbrev pub Puts : {X E : Type 0} → Result X E → List ℕ → List ℕ → List ℕ → Type 0
Puts (Ok x) old new text = new ≡ old ++ text
Puts (Err e) old new text = IsFront old new
