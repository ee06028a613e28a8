-- The origins of entries that stand in step, and the lines of a history entry by entry.
use Rattle.std.proofs.Common.{◌≡◌, ◌∙◌, ℕ, zero, suc, ◌+◌, ◌≤◌, ◌&&◌, Bool, true, false, eqb, cond, List, [], ◌∷◌, ◌++◌, take, slice_get, Option, Some, None, append-nil, append_assoc, add-one, refl, sym, ap, arith}
use Rattle.std.specs.Prelude.{IfSome}
use Rattle.std.specs.List.{flat_map}
use Rattle.std.proofs.lemmas.Grind.{common_steps}
use Rattle.std.proofs.lemmas.Bool.{eq-eqb}
use Rattle.ox_types.specs.declared.log.Entry.{Entry}
use Rattle.ox_wire.specs.declared.origin.Cause.{Cause}
use Rattle.ox_wire.specs.declared.origin.Origin.{Origin}
use Rattle.ox_wire.specs.Origins.{AreInStep}
use Rattle.ox_report.specs.History.{cause_of, entry_text, entry_line}

-- the origin at a place is the first one of its place
skips : (e : Entry) (origins : List Origin) (from k : ℕ) (x : Origin) → ((i : ℕ) (y : Origin) → slice_get origins i ≡ Some y → (y.shard ≡ 0) × (y.offset ≡ from + i)) → x.term ≡ e.term → e.offset ≡ from + k → slice_get origins k ≡ Some x → cause_of 0 e origins ≡ x.cause
skips e [] from k x places t o h = absurd cc
skips e (y ∷ ys) from zero x places t o h =
    let here = places 0 y refl in
    let same : y ≡ x = cc in
    let a : eqb y.shard 0 ≡ true = eq-eqb _ _ here.0 in
    let b : eqb y.term e.term ≡ true = eq-eqb _ _ (ap (λ (z : Origin). z.term) same ∙ t) in
    let c : eqb y.offset e.offset ≡ true = eq-eqb _ _ (here.1 ∙ sym o) in
    rw (a, b, c) (ap (λ (z : Origin). z.cause) same)
skips e (y ∷ ys) from (suc k) x places t o h =
    let here = places 0 y refl in
    let c : eqb y.offset e.offset ≡ false = differ y.offset e.offset (omega (arith, here.1, o)) in
    let rest = skips e ys (from + 1) k x (λ i z g. let p = places (suc i) z g in (p.0, omega (arith, p.1))) t (omega (arith, o)) h in
    passes (eqb y.shard 0) (eqb y.term e.term) (eqb y.offset e.offset) c rest
  where
    differ : (m n : ℕ) → m + 1 ≤ n → eqb m n ≡ false
    differ m n h = grind (arith, common_steps)

    passes : (a b c : Bool) → c ≡ false → cause_of 0 e ys ≡ x.cause → cond (a && (b && c)) y.cause (cause_of 0 e ys) ≡ x.cause
    passes true true true n r = absurd (cc)
    passes true true false n r = r
    passes true false c n r = r
    passes false b c n r = r

cause_in_step : (history : List Entry) (origins : List Origin) (i : ℕ) (e : Entry) (x : Origin) → AreInStep history origins → slice_get history i ≡ Some e → slice_get origins i ≡ Some x → cause_of 0 e origins ≡ x.cause
cause_in_step history origins i e x s g h =
    skips e origins 0 i x (λ k y z. let p = s.origin k y z in (p.0, omega (arith, p.1))) (s.term i e x g h) (omega (arith, s.entry i e g)) h

pub cause_here : (history : List Entry) (origins : List Origin) (i : ℕ) (x : Origin) → AreInStep history origins → slice_get origins i ≡ Some x → IfSome (slice_get history i) (λ e. x.cause ≡ cause_of 0 e origins)
cause_here history origins i x s h = by_entry (slice_get history i) refl
  where
    by_entry : (o : Option Entry) → slice_get history i ≡ o → IfSome o (λ e. x.cause ≡ cause_of 0 e origins)
    by_entry None g = tt
    by_entry (Some e) g = sym (cause_in_step history origins i e x s g h)

flat_map_next : {A B : Type 0} (f : A → List B) (xs : List A) (i : ℕ) (x : A) → slice_get xs i ≡ Some x → flat_map f (take (suc i) xs) ≡ flat_map f (take i xs) ++ f x
flat_map_next f [] i x h = absurd cc
flat_map_next f (y ∷ ys) zero x h = let is : y ≡ x = cc in append-nil (f y) ∙ ap f is
flat_map_next f (y ∷ ys) (suc i) x h = ap (λ t. f y ++ t) (flat_map_next f ys i x h) ∙ sym (append_assoc (f y) (flat_map f (take i ys)) (f x))

pub entries_next : (start text text' : List ℕ) (history : List Entry) (origins : List Origin) (i : ℕ) (e : Entry) (x : Cause) → text ≡ start ++ flat_map (entry_line origins 0) (take i history) → slice_get history i ≡ Some e → text' ≡ text ++ entry_text e x → IfSome (slice_get history i) (λ d. x ≡ cause_of 0 d origins) → text' ≡ start ++ flat_map (entry_line origins 0) (take (i + 1) history)
entries_next start text text' history origins i e x so_far here next cause =
    let is : x ≡ cause_of 0 e origins = rw here at cause in
    let line : text' ≡ text ++ entry_line origins 0 e = next ∙ ap (λ c. text ++ entry_text e c) is in
    rw add-one (line ∙ ap (λ t. t ++ entry_line origins 0 e) so_far ∙ append_assoc start (flat_map (entry_line origins 0) (take i history)) (entry_line origins 0 e) ∙ ap (λ t. start ++ t) (sym (flat_map_next (entry_line origins 0) history i e here)))
