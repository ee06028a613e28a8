-- The greatest number that passes a test, from above.
use Rattle.std.proofs.Common.{◌≡◌, ℕ, zero, suc, ◌<◌, ◌≤◌, nat_le, ◌==◌, ◌&&◌, Bool, true, false, Option, Some, None, if◌then◌else◌, refl, sym, ap, ◌∙◌, arith, inl, inr}
use Rattle.std.specs.Prelude.{min}
use Rattle.std.proofs.lemmas.Bool.{cases_lt}
use Rattle.ox_quorum.specs.CommonPoint.{greatest}

pub greatest_here : (test : ℕ → Bool) (least n : ℕ) → least ≤ n → test n ≡ true → greatest test least n ≡ Some n
unfolding greatest
greatest_here test least zero le h =
    let e : (least == 0) ≡ true = grind (arith, le) in
    rw (e, h) refl
greatest_here test least (suc n) le h =
    let e : nat_le least (suc n) ≡ true = grind (arith, le) in
    rw (e, h) refl

pub greatest_nowhere : (test : ℕ → Bool) (least n : ℕ) → n < least → greatest test least n ≡ None
unfolding greatest
greatest_nowhere test least zero lt =
    let e : (least == 0) ≡ false = grind (arith, lt) in
    rw e refl
greatest_nowhere test least (suc n) lt =
    let e : nat_le least (suc n) ≡ false = grind (arith, lt) in
    rw e (greatest_nowhere test least n (omega arith))

fails_here : (test : ℕ → Bool) (least n : ℕ) → test (suc n) ≡ false → greatest test least (suc n) ≡ greatest test least n
unfolding greatest
fails_here test least n h = go (nat_le least (suc n))
  where
    go : (b : Bool) → (if b && test (suc n) then Some (suc n) else greatest test least n) ≡ greatest test least n
    go true = rw h refl
    go false = refl

-- numbers that fail are passed over
pub greatest_below : (test : ℕ → Bool) (least n lower : ℕ) → lower ≤ n → ((k : ℕ) → lower < k → k ≤ n → test k ≡ false) → greatest test least n ≡ greatest test least lower
greatest_below test least zero lower le fails =
    let e : lower ≡ 0 = omega arith in
    rw e refl
greatest_below test least (suc n) lower le fails = elim (cases_lt lower (suc n)) [
  | inl lt ↦ fails_here test least n (fails (suc n) lt (omega arith)) ∙ greatest_below test least n lower (omega arith) (λ k above upto. fails k above (omega arith))
  | inr ge ↦
      let e : lower ≡ suc n = omega arith in
      rw e refl
]

-- the least number alone
pub greatest_alone : (test : ℕ → Bool) (n : ℕ) → test n ≡ false → greatest test n n ≡ None
unfolding greatest
greatest_alone test zero h = rw h refl
greatest_alone test (suc n) h = fails_here test (suc n) n h ∙ greatest_nowhere test (suc n) n (omega arith)

module _ (limit x y a b most : ℕ) (first : a ≡ min limit x) (second : b ≡ min limit y) (is : most ≡ min a b) (test : ℕ → Bool) (least : ℕ) where
  most_is : most ≡ min limit (min x y)
  most_is = omega arith

  pub none_to : most < least → None ≡ greatest test least (min limit (min x y))
  none_to less = sym (greatest_nowhere test least (min limit (min x y)) (omega (arith, less, most_is)))

  pub found_to : (found : Option ℕ) → found ≡ greatest test least most → found ≡ greatest test least (min limit (min x y))
  found_to found h = h ∙ ap (greatest test least) most_is

  -- a limit that is above both is none
  pub unlimited : x ≤ limit → y ≤ limit → greatest test least (min limit (min x y)) ≡ greatest test least (min x y)
  unlimited le too =
      let same : min limit (min x y) ≡ min x y = omega (arith, le, too) in
      ap (greatest test least) same
