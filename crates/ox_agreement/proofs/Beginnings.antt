-- Beginnings of lists.
use Rattle.std.proofs.Common.{◌≡◌, ◌≤◌, List, [], ◌∷◌, ◌++◌, length, refl, sym, ◌∙◌, ap, arith, append_assoc, length-append, ◌⊎◌, inl, inr}
use Rattle.std.proofs.lemmas.List.{append-nil}
use Rattle.std.proofs.lemmas.Bool.{cases_lt}
use Rattle.ox_agreement.specs.Begins.{Begins}

pub begins_itself : {A : Type 0} (l : List A) → Begins l l
begins_itself l = record { rest = []; is = append-nil l }

pub begins_on : {A : Type 0} {p q r : List A} → Begins p q → Begins q r → Begins p r
begins_on {A} {p} {q} {r} h k = record {
  rest = h.rest ++ k.rest;
  is = sym (append_assoc p h.rest k.rest) ∙ ap (λ x. x ++ k.rest) h.is ∙ k.is;
}

pub begins_shorter : {A : Type 0} {p q : List A} → Begins p q → length p ≤ length q
begins_shorter {A} {p} {q} h = let e = ap length h.is in let f = length-append p h.rest in omega arith

-- of two beginnings of one list the shorter begins the longer
begins_compare : {A : Type 0} (p q r x y : List A) → p ++ x ≡ r → q ++ y ≡ r → length p ≤ length q → Begins p q
begins_compare [] q r x y e f h = record { rest = q; is = refl }
begins_compare (a ∷ p) [] r x y e f h = absurd (omega arith)
begins_compare (a ∷ p) (b ∷ q) [] x y e f h = cc
begins_compare (a ∷ p) (b ∷ q) (c ∷ r) x y e f h =
    let tail : Begins p q = begins_compare p q r x y (cc) (cc) (omega arith) in
    record { rest = tail.rest; is = let g = tail.is in let e1 : a ≡ c = cc in let e2 : b ≡ c = cc in cc }

pub begins_both : {A : Type 0} {p q r : List A} → Begins p r → Begins q r → length p ≤ length q → Begins p q
begins_both {A} {p} {q} {r} h k l = begins_compare p q r h.rest k.rest h.is k.is l

pub begins_either : {A : Type 0} {p q r : List A} → Begins p r → Begins q r → Begins p q ⊎ Begins q p
begins_either {A} {p} {q} {r} h k =
    elim (cases_lt (length p) (length q)) [ inl l ↦ inl (begins_both h k (omega arith)) | inr l ↦ inr (begins_both k h l) ]
