-- The terms along a list of entries, along its beginnings, and where more is added.
use Rattle.std.proofs.Common.{◌≡◌, ℕ, ◌<◌, ◌≤◌, List, [], ◌∷◌, ◌++◌, length, arith}
use Rattle.std.proofs.lemmas.List.{append-nil}
use Rattle.ox_types.specs.declared.log.Entry.{Entry}
use Rattle.ox_agreement.specs.Begins.{Begins}
use Rattle.ox_agreement.specs.Entries.{last_term, AreOfTerm}

-- the terms of the entries never fall
abbrev pub TermsNeverFall : List Entry → Type 0
TermsNeverFall [] = Unit {0}
TermsNeverFall (e ∷ []) = Unit {0}
TermsNeverFall (e ∷ (f ∷ es)) = (e.term ≤ f.term) × TermsNeverFall (f ∷ es)

-- the last term of a beginning isn't above that of the whole, where terms never fall
front_term : (p x : List Entry) → TermsNeverFall (p ++ x) → last_term p ≤ last_term (p ++ x)
front_term [] x h = omega arith
front_term (a ∷ []) [] h = omega arith
front_term (a ∷ []) (b ∷ x) h = let k = front_term (b ∷ []) x h.1 in omega arith
front_term (a ∷ (b ∷ p)) x h = front_term (b ∷ p) x h.1

pub begins_term : {p q : List Entry} → Begins p q → TermsNeverFall q → last_term p ≤ last_term q
begins_term {p} {q} h k = let e = h.is in rw (← e) (front_term p h.rest (rw (← e) at k))

pub front_rises : (p x : List Entry) → TermsNeverFall (p ++ x) → TermsNeverFall p
front_rises [] x h = tt
front_rises (a ∷ []) x h = tt
front_rises (a ∷ (b ∷ p)) x h = (h.0, front_rises (b ∷ p) x h.1)

pub begins_rises : {p q : List Entry} → Begins p q → TermsNeverFall q → TermsNeverFall p
begins_rises {p} {q} h k = front_rises p h.rest (let e = h.is in rw (← e) at k)

-- entries of one term, behind a list whose terms aren't above it
pub rises_more : (t : ℕ) (xs more : List Entry) → TermsNeverFall xs → last_term xs ≤ t → AreOfTerm t more → TermsNeverFall (xs ++ more)
rises_more t [] [] h k a = tt
rises_more t [] (e ∷ []) h k a = tt
rises_more t [] (e ∷ (f ∷ es)) h k a = (let i = a.0 in let j = a.1.0 in omega arith, rises_more t [] (f ∷ es) tt (omega arith) a.1)
rises_more t (x ∷ []) [] h k a = tt
rises_more t (x ∷ []) (e ∷ es) h k a = (let i = a.0 in omega arith, rises_more t [] (e ∷ es) tt (omega arith) a)
rises_more t (x ∷ (y ∷ xs)) more h k a = (h.0, rises_more t (y ∷ xs) more h.1 k a)

pub ends_in : (t : ℕ) (xs more : List Entry) → 0 < length more → AreOfTerm t more → last_term (xs ++ more) ≡ t
ends_in t xs [] h a = absurd (omega arith)
ends_in t [] (e ∷ []) h a = a.0
ends_in t [] (e ∷ (f ∷ es)) h a = ends_in t [] (f ∷ es) (omega arith) a.1
ends_in t (x ∷ []) (e ∷ es) h a = ends_in t [] (e ∷ es) h a
ends_in t (x ∷ (y ∷ xs)) (e ∷ es) h a = ends_in t (y ∷ xs) (e ∷ es) h a

pub last_more : (t : ℕ) (xs more : List Entry) → last_term xs ≤ t → AreOfTerm t more → last_term (xs ++ more) ≤ t
last_more t xs [] h a = rw append-nil h
last_more t xs (e ∷ es) h a = let k = ends_in t xs (e ∷ es) (omega arith) a in omega arith

-- a beginning that reaches into these entries ends in their term
pub front_ends_in : (t : ℕ) (xs more y z : List Entry) → AreOfTerm t more → length xs < length y → y ++ z ≡ xs ++ more → last_term y ≡ t
front_ends_in t [] more [] z a h e = absurd (omega arith)
front_ends_in t [] [] (b ∷ y) z a h e = cc
front_ends_in t [] (c ∷ more) (b ∷ []) z a h e = let k : b ≡ c = cc in rw k a.0
front_ends_in t [] (c ∷ more) (b ∷ (d ∷ y)) z a h e = front_ends_in t [] more (d ∷ y) z a.1 (omega arith) (cc)
front_ends_in t (x ∷ xs) more [] z a h e = absurd (omega arith)
front_ends_in t (x ∷ xs) more (b ∷ []) z a h e = absurd (omega arith)
front_ends_in t (x ∷ xs) more (b ∷ (d ∷ y)) z a h e = front_ends_in t xs more (d ∷ y) z a (omega arith) (cc)
