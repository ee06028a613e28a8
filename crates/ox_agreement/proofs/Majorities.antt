-- Two sets of nodes that meet one config share a node, and what a set that meets a config says of the config before.
use Rattle.std.proofs.Common.{◌≡◌, ℕ, ◌+◌, ◌*◌, ◌<◌, Bool, true, false, cond, List, [], ◌∷◌, length, refl, ap, ◌∙◌, arith}
use Rattle.std.proofs.lemmas.Bool.{ltb-true, and_parts}
use Rattle.std.proofs.lemmas.List.Sums.{sum_by-cons}
use Rattle.std.specs.Prelude.{count_by, IsTrue}
use Rattle.ox_quorum.specs.declared.config.Config.{Config}
use Rattle.ox_quorum.specs.declared.config.Config.TheVariants.{One, Joint}
use Rattle.ox_quorum.specs.Quorum.{has_majority, meets_config, Follows}
use Rattle.ox_quorum.specs.Quorum.Follows.{Same, Enters, Leaves}

-- a node in both sets
abbrev pub Shared : (ℕ → Bool) → (ℕ → Bool) → Type 0
Shared s r = (n : ℕ) × IsTrue (s n) × IsTrue (r n)

-- one more element adds one where it is in the set
adds : (p : ℕ → Bool) (x : ℕ) (xs : List ℕ) (b : Bool) → p x ≡ b → count_by p (x ∷ xs) ≡ cond b 1 0 + count_by p xs
adds p x xs b e = sum_by-cons (λ y. cond (p y) 1 0) x xs ∙ ap (λ c. cond c 1 0 + count_by p xs) e

module _ (s r : ℕ → Bool) where
  step :
      (x : ℕ) (xs : List ℕ) → (length xs < count_by s xs + count_by r xs → Shared s r) →
      length (x ∷ xs) < count_by s (x ∷ xs) + count_by r (x ∷ xs) →
      (a : Bool) → s x ≡ a → (b : Bool) → r x ≡ b → Shared s r
  step x xs ih h true e true f = (x, e, f)
  step x xs ih h true e false f = ih (let j = adds s x xs true e in let k = adds r x xs false f in omega arith)
  step x xs ih h false e true f = ih (let j = adds s x xs false e in let k = adds r x xs true f in omega arith)
  step x xs ih h false e false f = ih (let j = adds s x xs false e in let k = adds r x xs false f in omega arith)

  -- two sets that together hold more members of a list than it has share one of them
  pub shared_by_count : (xs : List ℕ) → length xs < count_by s xs + count_by r xs → Shared s r
  shared_by_count [] h = absurd (omega arith)
  shared_by_count (x ∷ xs) h = step x xs (shared_by_count xs) h (s x) refl (r x) refl

  -- two majorities of one ensemble share a member
  pub shared_of_majorities : (xs : List ℕ) → IsTrue (has_majority s xs) → IsTrue (has_majority r xs) → Shared s r
  shared_of_majorities xs h k =
      let i = ltb-true (length xs) (2 * count_by s xs) h in
      let j = ltb-true (length xs) (2 * count_by r xs) k in
      shared_by_count xs (omega arith)

  -- two sets that meet one config share a node
  pub shared_of_config : (c : Config) → IsTrue (meets_config s c) → IsTrue (meets_config r c) → Shared s r
  shared_of_config (One a) h k = shared_of_majorities a h k
  shared_of_config (Joint a b) h k =
      shared_of_majorities a (and_parts (has_majority s a) (has_majority s b) h).0 (and_parts (has_majority r a) (has_majority r b) k).0

-- What a set that meets the config of the next term says of the term before: it meets that config too,
-- or the term is a joint one that was recorded steady, and each set that meets its config shares a node with this one.
pub data Before (nodes : ℕ → Bool) (c : Config) (steady : Bool) : Type 0 where
  Still : IsTrue (meets_config nodes c) → Before nodes c steady
  Split : IsTrue steady → ((others : ℕ → Bool) → IsTrue (meets_config others c) → Shared others nodes) → Before nodes c steady

pub before :
    (nodes : ℕ → Bool) (c : Config) (steady : Bool) (d : Config) → Follows c steady d → IsTrue (meets_config nodes d) →
    Before nodes c steady
before nodes c steady d (Same _ _) m = Still m
before nodes c steady d (Enters a b _ _) m = Still (and_parts (has_majority nodes a) (has_majority nodes b) m).0
before nodes c steady d (Leaves a b _ is) m =
    Split is (λ others k. shared_of_majorities others nodes b (and_parts (has_majority others a) (has_majority others b) k).1 m)
