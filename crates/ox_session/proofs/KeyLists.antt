-- The keys of a table of keys.
use Rattle.std.proofs.Common.{◌≡◌, ◌∙◌, ℕ, Bool, true, List, [], ◌∷◌, ◌++◌, map, filter, refl, sym, ap, append_assoc, inl, inr, Bor}
use Rattle.std.specs.Prelude.{not, Option, Some, None, is_some, option_to_list}
use Rattle.std.specs.Option.{option_map, option_copied}
use Rattle.std.specs.Ordering.{is_lt, is_gt, is_eq, is_ne, ordering_reverse}
use Rattle.std.specs.Str.{bytes_eq}
use Rattle.std.specs.declared.cmp.Ordering.{Ordering}
use Rattle.std.specs.declared.cmp.Ordering.TheVariants.{Less, Equal, Greater}
use Rattle.std.proofs.lemmas.Bool.{cases_Bool}
use Rattle.std.proofs.lemmas.List.{map-append}
use Rattle.ox_types.specs.Order.{key_cmp}
use Rattle.ox_types.specs.OrderLaws.{key_total, key_ties}
use Rattle.ox_order.specs.declared.range.Lo.TheVariants.{Start}
use Rattle.ox_order.specs.declared.range.Hi.TheVariants.{End}
use Rattle.ox_table.specs.Table.{Pairs, IsBelow, IsRising, table_get, inserted, removed, below, having, above, within}
use Rattle.ox_table.specs.TableLaws.{split-pairs, having-pairs}
use Rattle.ox_session.specs.Keys.{with_key, without_key, IsBeforeAll, KeysRise}

module _ {X : Type 0} where
  filter_alike : (p q : X → Bool) → ((x : X) → p x ≡ q x) → (xs : List X) → filter p xs ≡ filter q xs
  filter_alike p q e [] = refl
  filter_alike p q e (x ∷ xs) = elim (cases_Bool (q x)) [
    | inl passes ↦ rw (e x, passes) (ap (λ (ys : List X). x ∷ ys) (filter_alike p q e xs))
    | inr fails ↦ rw (e x, fails) (filter_alike p q e xs)
  ]

  filter_true : (xs : List X) → filter (λ _. true) xs ≡ xs
  filter_true [] = refl
  filter_true (x ∷ xs) = ap (λ (ys : List X). x ∷ ys) (filter_true xs)

gt_turned : (r s : Ordering) → r ≡ ordering_reverse s → is_gt r ≡ is_lt s
gt_turned r Less e = rw e refl
gt_turned r Equal e = rw e refl
gt_turned r Greater e = rw e refl

ne_is : (r : Ordering) → is_ne r ≡ not (is_eq r)
ne_is Less = refl
ne_is Equal = refl
ne_is Greater = refl

module _ {V : Type 0} where
  abbrev pub keys : Pairs V → List (List ℕ)
  keys pairs = map (λ p. p.0) pairs

  keys_filter : (t : List ℕ → Bool) (pairs : Pairs V) → keys (filter (λ p. t p.0) pairs) ≡ filter t (keys pairs)
  keys_filter t [] = refl
  keys_filter t (p ∷ pairs) = elim (cases_Bool (t p.0)) [
    | inl passes ↦ rw passes (ap (λ (ks : List (List ℕ)). p.0 ∷ ks) (keys_filter t pairs))
    | inr fails ↦ rw fails (keys_filter t pairs)
  ]

  pub keys_inserted : (pairs : Pairs V) (key : List ℕ) (value : V) → keys (inserted pairs key value) ≡ with_key key (keys pairs)
  keys_inserted pairs key value =
      let low = keys_filter (λ k. is_lt (key_cmp k key)) pairs in
      let high : keys (above key pairs) ≡ filter (λ k. is_lt (key_cmp key k)) (keys pairs) = keys_filter (λ k. is_gt (key_cmp k key)) pairs
      ∙ filter_alike (λ k. is_gt (key_cmp k key)) (λ k. is_lt (key_cmp key k)) (λ k. gt_turned _ _ (key_total.antisymm k key)) (keys pairs) in
      map-append (λ (p : List ℕ × V). p.0) (below key pairs) ((key, value) ∷ above key pairs) ∙ (λ i. low i ++ key ∷ high i)

  pub keys_removed : (pairs : Pairs V) (key : List ℕ) → keys (removed pairs key) ≡ without_key key (keys pairs)
  keys_removed pairs key =
      keys_filter (λ k. is_ne (key_cmp k key)) pairs
      ∙ filter_alike (λ k. is_ne (key_cmp k key)) (λ k. not (bytes_eq k key)) (λ k. ne_is (key_cmp k key) ∙ ap not (sym (key_ties k key))) (keys pairs)

  -- a key that is there
  there : (pairs : Pairs V) (key : List ℕ) (o : Option V) → IsRising pairs → o ≡ table_get pairs key → is_some o ≡ true → keys pairs ≡ with_key key (keys pairs)
  there pairs key None r e s = cc s
  there pairs key (Some v) r e s =
      let one : having key pairs ≡ (key, v) ∷ [] = having-pairs pairs key r ∙ ap (λ (o : Option V). option_to_list (option_map (λ (x : V). (key, x)) o)) (sym e) in
      let cut : pairs ≡ inserted pairs key v = split-pairs pairs key r ∙ ap (λ (ps : Pairs V). below key pairs ++ ps ++ above key pairs) one
      ∙ append_assoc (below key pairs) ((key, v) ∷ []) (above key pairs) in
      ap keys cut ∙ keys_inserted pairs key v

  pub keys_there : (pairs : Pairs V) (key : List ℕ) (o : Option V) → IsRising pairs → o ≡ table_get pairs key → is_some o ≡ true → keys pairs ≡ with_key key (keys pairs)
  keys_there = there

  pub keys_within : (pairs : Pairs V) → keys (within (record { lo = Start; hi = End }) pairs) ≡ keys pairs
  keys_within pairs = ap keys (filter_true pairs)

pub some_copied : {V : Type 0} (o : Option (Bor V)) → is_some (option_copied o) ≡ is_some o
some_copied None = refl
some_copied (Some v) = refl

module _ {V : Type 0} where
  before_all : (key : List ℕ) (pairs : Pairs V) → IsBelow key pairs → IsBeforeAll key (keys pairs)
  before_all key [] h = tt
  before_all key (p ∷ pairs) h = (h.0, before_all key pairs h.1)

  pub keys_rise : (pairs : Pairs V) → IsRising pairs → KeysRise (keys pairs)
  keys_rise [] h = tt
  keys_rise (p ∷ pairs) h = (before_all p.0 pairs h.0, keys_rise pairs h.1)
