-- Logs of a tale match, and each entry stands at its offset.
use Rattle.std.proofs.Common.{◌≡◌, ℕ, zero, suc, ◌+◌, ◌≤◌, List, [], ◌∷◌, ◌++◌, length}
use Rattle.std.proofs.Common.{take, drop, refl, sym, ◌∙◌, ap, subst, arith, inl, inr}
use Rattle.std.proofs.lemmas.List.{take-append-drop, length-take}
use Rattle.ox_types.specs.declared.log.Entry.{Entry}
use Rattle.ox_types.specs.declared.log.Seat.TheVariants.{Led}
use Rattle.ox_agreement.specs.Begins.{Begins}
use Rattle.ox_agreement.specs.Entries.{last_term, AreNumbered}
use Rattle.ox_agreement.specs.Tale.{Moment, latest, LeaderHad}
use Rattle.ox_agreement.specs.Steps.{Step, IsTale}
use Rattle.ox_agreement.specs.Steps.Step.{ByFencing, ByLeading, ByWriting, ByAttaching, ByGrowing}
use Rattle.ox_agreement.specs.Agreement.{LogsMatch, EntriesStandAtOffsets}
use Rattle.ox_agreement.proofs.Beginnings.{begins_itself, begins_on}
use Rattle.ox_agreement.proofs.Moments.{latest_was}
use Rattle.ox_agreement.proofs.Stems.{Stems, stems}
use Rattle.ox_agreement.proofs.Leaders.{one}

pub take_begins : (n : ℕ) (l : List Entry) → Begins (take n l) l
take_begins n l = record { rest = drop n l; is = take-append-drop n l }

pub take_length : (n : ℕ) (l : List Entry) → n ≤ length l → length (take n l) ≡ n
take_length n l h = simp length-take (omega arith)

pub begins_take : (p l : List Entry) → Begins p l → p ≡ take (length p) l
begins_take p l b = sym (take_front p b.rest) ∙ ap (λ x. take (length p) x) b.is
  where
    take_front : (p x : List Entry) → take (length p) (p ++ x) ≡ p
    take_front [] x = refl
    take_front (e ∷ es) x = ap (λ y. e ∷ y) (take_front es x)

-- two beginnings of one list that are as long are the same
same_front : (p q l : List Entry) → Begins p l → Begins q l → length p ≡ length q → p ≡ q
same_front p q l a b e = begins_take p l a ∙ ap (λ n. take n l) e ∙ sym (begins_take q l b)

-- and so are beginnings of beginnings of it
same_fronts : (p q r s l : List Entry) → Begins p r → Begins q s → Begins r l → Begins s l → length p ≡ length q → p ≡ q
same_fronts p q r s l a b c d e = same_front p q l (begins_on a c) (begins_on b d) e

numbered_more : (n : ℕ) (xs ys : List Entry) → AreNumbered n xs → AreNumbered (n + length xs) ys → AreNumbered n (xs ++ ys)
numbered_more n [] ys a b = let e : n + 0 ≡ n = omega arith in subst (λ k. AreNumbered k ys) e b
numbered_more n (x ∷ xs) ys a b =
    let e : n + suc (length xs) ≡ suc n + length xs = omega arith in
    (a.0, numbered_more (suc n) xs ys a.1 (subst (λ k. AreNumbered k ys) e b))

numbered_front : (n : ℕ) (xs ys : List Entry) → AreNumbered n (xs ++ ys) → AreNumbered n xs
numbered_front n [] ys a = tt
numbered_front n (x ∷ xs) ys a = (a.0, numbered_front (suc n) xs ys a.1)

numbered_begins : {p q : List Entry} → Begins p q → AreNumbered 0 q → AreNumbered 0 p
numbered_begins {p} {q} b a = numbered_front 0 p b.rest (subst (λ l. AreNumbered 0 l) (sym b.is) a)

numbered_on : (xs ys : List Entry) → AreNumbered 0 xs → AreNumbered (length xs) ys → AreNumbered 0 (xs ++ ys)
numbered_on xs ys a b =
    let e : length xs ≡ 0 + length xs = omega arith in numbered_more 0 xs ys a (subst (λ k. AreNumbered k ys) e b)

latest_numbered : (ms : List Moment) (n : ℕ) → EntriesStandAtOffsets ms → AreNumbered 0 (latest ms n).entries
latest_numbered ms n each =
    elim (latest_was ms n) [
      | inl e ↦ subst (λ x. AreNumbered 0 x.entries) (sym e) tt
      | inr w ↦ each n (latest ms n).term (latest ms n).seat (latest ms n).entries w
    ]

module _ (leader : ℕ → ℕ) where
  numbered_step :
      (ms : List Moment) (old new : Moment) → AreNumbered 0 old.entries → EntriesStandAtOffsets ms → Step leader ms old new →
      AreNumbered 0 new.entries
  numbered_step ms old new before each (ByFencing s) = subst (λ l. AreNumbered 0 l) (sym s.same) before
  numbered_step ms old new before each (ByLeading s) =
      subst (λ l. AreNumbered 0 l) (sym s.added) (numbered_on old.entries (s.pass ∷ []) before (s.numbered, tt))
  numbered_step ms old new before each (ByWriting s) =
      subst (λ l. AreNumbered 0 l) (sym s.added) (numbered_on old.entries s.more before s.numbered)
  numbered_step ms old new before each (ByAttaching s) = numbered_begins s.follows (each s.leads.0 new.term Led s.list s.leads.1)
  numbered_step ms old new before each (ByGrowing s) = numbered_begins s.follows (each s.leads.0 new.term Led s.list s.leads.1)

  pub numbered : (ms : List Moment) → IsTale leader ms → EntriesStandAtOffsets ms
  numbered [] tale n t s l w = absurd w
  numbered (m ∷ ms) tale n t s l (inl h) =
      let before = numbered ms tale.1 in
      subst (λ l. AreNumbered 0 l) h.has (numbered_step ms (latest ms m.node) m (latest_numbered ms m.node before) before tale.0)
  numbered (m ∷ ms) tale n t s l (inr w) = numbered ms tale.1 n t s l w

  module _ (ms : List Moment) (tale : IsTale leader ms) where
    -- two lists of the leader of a term are beginnings of one of them
    pub longest :
        (t : ℕ) (q r : List Entry) → LeaderHad ms t q → LeaderHad ms t r →
        (x : List Entry) × LeaderHad ms t x × Begins q x × Begins r x
    longest t q r v w =
        elim (one leader ms tale t q r v w) [
          | inl b ↦ (r, w, b, begins_itself r)
          | inr b ↦ (q, v, begins_itself q, b)
        ]

    matching_of :
        (x y : List Entry) → Stems ms x → Stems ms y → (n : ℕ) → n ≤ length x → n ≤ length y →
        last_term (take n x) ≡ last_term (take n y) → take n x ≡ take n y
    unfolding Stems
    matching_of x y f g zero h k e = refl
    matching_of x y f g (suc d) h k e =
        let i = take_length (suc d) x (omega arith) in
        let j = take_length (suc d) y (omega arith) in
        let r = f (take (suc d) x) (take_begins (suc d) x) (omega arith) in
        let s = g (take (suc d) y) (take_begins (suc d) y) (omega arith) in
        let z = longest (last_term (take (suc d) x)) r.0 s.0 r.1 (subst (λ t. LeaderHad ms t s.0) (sym e) s.1) in
        same_fronts (take (suc d) x) (take (suc d) y) r.0 s.0 z.0 r.2 s.2 z.2 z.3 (i ∙ sym j)

    pub matching : LogsMatch ms
    matching n k t u s o x y v w = matching_of x y (stems leader ms tale n t s x v) (stems leader ms tale k u o y w)
