-- What an edit at a place makes of a list of added entries that stands in order.
use Rattle.std.proofs.Common.{◌≡◌, ◌∙◌, ℕ, suc, ◌<◌, ◌≤◌, Bool, true, false, List, [], ◌∷◌, ◌++◌, length, get_or, take, drop, filter, refl, sym, ap, subst, arith, drop-cons}
use Rattle.std.specs.Prelude.{not, ◌&&◌}
use Rattle.std.specs.Ordering.{is_lt, is_eq, is_gt, is_ne, ordering_reverse}
use Rattle.std.specs.Cmp.{tied_itself}
use Rattle.std.specs.declared.cmp.Ordering.{Ordering}
use Rattle.std.specs.declared.cmp.Ordering.TheVariants.{Less, Equal, Greater}
use Rattle.std.proofs.lemmas.List.{take-append-drop, drop_all}
use Rattle.std.proofs.lemmas.List.Elements.{filter-append}
use Rattle.ox_types.specs.Lists.{IsCut}
use Rattle.ox_index.specs.declared.added.Added.{Added}
use Rattle.ox_index.specs.Order.{added_cmp, StandsBefore, IsInOrder}
use Rattle.ox_index.specs.OrderLaws.{added_anti, gt_after, before_earlier, in_order-drop}
use Rattle.ox_index.specs.OrderTotal.{added_total}
use Rattle.ox_index.specs.Pairs.{with_added, without_added}
use Rattle.ox_index.specs.Place.{IsPlaceOf, IsGapFor}
use Rattle.ox_index.proofs.Cuts.{cut_front, cut_back, filter_alike, filter_both}

-- two of the tests together
not_lt_gt : (r : Ordering) → (not (is_lt r) && is_gt r) ≡ is_gt r
not_lt_gt Less = refl
not_lt_gt Equal = refl
not_lt_gt Greater = refl

not_lt_ne : (r : Ordering) → (not (is_lt r) && is_ne r) ≡ is_gt r
not_lt_ne Less = refl
not_lt_ne Equal = refl
not_lt_ne Greater = refl

lt_ne : (r : Ordering) → (is_lt r && is_ne r) ≡ is_lt r
lt_ne Less = refl
lt_ne Equal = refl
lt_ne Greater = refl

module _ (a : Added) where
  abbrev lt : Added → Bool
  lt x = is_lt (added_cmp x a)

  abbrev gt : Added → Bool
  gt x = is_gt (added_cmp x a)

  abbrev ne : Added → Bool
  ne x = is_ne (added_cmp x a)

  -- those after the entry pass
  gt_all : (xs : List Added) → StandsBefore a xs → filter gt xs ≡ xs
  gt_all [] h = refl
  gt_all (x ∷ xs) h =
      let first : gt x ≡ true = ap is_gt (gt_after a x h.0) in
      rw first (ap (λ (ys : List Added). x ∷ ys) (gt_all xs h.1))

  -- the first of a list is the entry, or stands after it
  gt_here : (y : Added) (ys : List Added) → y ≡ a → StandsBefore y ys → filter gt (y ∷ ys) ≡ ys
  gt_here y ys e h =
      let tie : gt y ≡ false = ap gt e ∙ ap is_gt (tied_itself added_total a) in
      rw tie (gt_all ys (subst (λ (z : Added). StandsBefore z ys) e h))

  gt_later : (y : Added) (ys : List Added) → added_cmp y a ≡ Greater → StandsBefore y ys → filter gt (y ∷ ys) ≡ y ∷ ys
  gt_later y ys e h =
      let low : added_cmp a y ≡ Less = added_total.antisymm a y ∙ ap ordering_reverse e in
      gt_all (y ∷ ys) (low, before_earlier a y ys low h)

  module _ (xs : List Added) (n : ℕ) (h : IsCut lt xs n) (r : IsInOrder xs) where
    gt_back : filter gt xs ≡ filter gt (drop n xs)
    gt_back =
        sym (ap (filter gt) (sym (cut_back lt xs n h)) ∙ filter_both gt (λ x. not (lt x)) xs ∙ filter_alike _ gt (λ x. not_lt_gt (added_cmp x a)) xs)

    ne_back : filter ne (drop n xs) ≡ filter gt xs
    ne_back = ap (filter ne) (sym (cut_back lt xs n h)) ∙ filter_both ne (λ x. not (lt x)) xs ∙ filter_alike _ gt (λ x. not_lt_ne (added_cmp x a)) xs

    ne_front : filter ne (take n xs) ≡ take n xs
    ne_front =
        ap (filter ne) (sym (cut_front lt xs n h)) ∙ filter_both ne lt xs ∙ filter_alike _ lt (λ x. lt_ne (added_cmp x a)) xs ∙ cut_front lt xs n h

    without_is : without_added a xs ≡ take n xs ++ filter gt xs
    without_is =
        ap (filter ne) (sym (take-append-drop n xs)) ∙ filter-append ne (take n xs) (drop n xs)
        ∙ (λ i. ne_front i ++ ne_back i)

    with_is : with_added a xs ≡ take n xs ++ a ∷ filter gt xs
    with_is = ap (λ (ys : List Added). ys ++ a ∷ filter gt xs) (cut_front lt xs n h)

    all : take n xs ++ drop n xs ≡ xs
    all = take-append-drop n xs

    module _ (d : Added) (lt : n < length xs) where
      back_is : drop n xs ≡ get_or xs n d ∷ drop (suc n) xs
      back_is = drop-cons xs n d lt

      back_order : IsInOrder (get_or xs n d ∷ drop (suc n) xs)
      back_order = subst IsInOrder back_is (in_order-drop n xs r)

      pub at_place : added_cmp (get_or xs n d) a ≡ Equal → IsPlaceOf a xs n
      at_place tie =
          let same : get_or xs n d ≡ a = added_anti (get_or xs n d) a tie in
          let past : filter gt xs ≡ drop (suc n) xs = gt_back ∙ ap (filter gt) back_is ∙ gt_here _ _ same back_order.0 in
          let there : a ∷ drop (suc n) xs ≡ drop n xs = ap (λ (z : Added). z ∷ drop (suc n) xs) (sym same) ∙ sym back_is in
          record {
            inside = lt;
            same = with_is ∙ ap (λ (ys : List Added). take n xs ++ a ∷ ys) past ∙ ap (λ (ys : List Added). take n xs ++ ys) there ∙ all;
            taken = without_is ∙ ap (λ (ys : List Added). take n xs ++ ys) past;
          }

      gap_with : filter gt xs ≡ drop n xs → IsGapFor a xs n
      gap_with past = record {
        inside = omega arith;
        put = with_is ∙ ap (λ (ys : List Added). take n xs ++ a ∷ ys) past;
        same = without_is ∙ ap (λ (ys : List Added). take n xs ++ ys) past ∙ all;
      }

      -- what isn't less and doesn't tie is greater
      past_it : (s : Ordering) → is_lt s ≡ false → is_eq s ≡ false → s ≡ Greater
      past_it Less e f = cc e
      past_it Equal e f = cc f
      past_it Greater e f = refl

      pub at_gap : is_eq (added_cmp (get_or xs n d) a) ≡ false → IsGapFor a xs n
      at_gap e =
          let greater : added_cmp (get_or xs n d) a ≡ Greater = past_it _ (h.back n d (omega arith) lt) e in
          gap_with (gt_back ∙ ap (filter gt) back_is ∙ gt_later _ _ greater back_order.0 ∙ sym back_is)

    pub at_end : length xs ≤ n → IsGapFor a xs n
    at_end le =
        let none : drop n xs ≡ [] = drop_all n xs le in
        let past : filter gt xs ≡ drop n xs = gt_back ∙ ap (filter gt) none ∙ sym none in
        record {
          inside = h.inside;
          put = with_is ∙ ap (λ (ys : List Added). take n xs ++ a ∷ ys) past;
          same = without_is ∙ ap (λ (ys : List Added). take n xs ++ ys) past ∙ all;
        }
