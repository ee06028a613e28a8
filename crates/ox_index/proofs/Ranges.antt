-- The added entries of one index with a secondary key in a range are neighbours.
use Rattle.std.proofs.Common.{◌≡◌, ◌∙◌, ℕ, ◌-◌, ◌≤◌, Bool, true, false, List, [], take, drop, filter, map, refl, sym, ap, arith}
use Rattle.std.specs.Prelude.{max, not, ◌&&◌}
use Rattle.std.specs.Ordering.{is_lt, is_le, is_eq, ordering_reverse}
use Rattle.std.specs.Cmp.Lexicographic.{texts_ties}
use Rattle.std.specs.declared.cmp.Ordering.{Ordering}
use Rattle.std.specs.declared.cmp.Ordering.TheVariants.{Less, Equal, Greater}
use Rattle.ox_types.specs.Order.{bytes_cmp}
use Rattle.ox_types.specs.OrderLaws.{key_total}
use Rattle.ox_types.specs.Lists.{IsCut}
use Rattle.ox_order.specs.Range.{is_from, is_up_to, in_range}
use Rattle.ox_order.specs.declared.range.KeyRange.{KeyRange}
use Rattle.ox_order.specs.declared.range.Lo.{Lo}
use Rattle.ox_order.specs.declared.range.Lo.TheVariants.{Start, At, Past}
use Rattle.ox_order.specs.declared.range.Hi.{Hi}
use Rattle.ox_order.specs.declared.range.Hi.TheVariants.{End, Before}
use Rattle.ox_index.specs.declared.added.Added.{Added}
use Rattle.ox_index.specs.Pairs.{has_name, pair_of, pairs_under}
use Rattle.ox_index.specs.Place.{is_before_start, is_before_end}
use Rattle.ox_index.proofs.Cuts.{cut_back, cut_window, filter_alike, filter_both, filter_map_first, map_both}

-- a comparison turned round
turned_lt : (r s : Ordering) → r ≡ ordering_reverse s → not (is_lt s) ≡ is_le r
turned_lt r Less e = rw e refl
turned_lt r Equal e = rw e refl
turned_lt r Greater e = rw e refl

turned_le : (r s : Ordering) → r ≡ ordering_reverse s → not (is_le s) ≡ is_lt r
turned_le r Less e = rw e refl
turned_le r Equal e = rw e refl
turned_le r Greater e = rw e refl

and_false : (b : Bool) → (b && false) ≡ false
and_false true = refl
and_false false = refl

-- within the index, the ends are those of the range
start_test : (name : List ℕ) (lo : Lo) (a : Added) → bytes_cmp a.entry.name name ≡ Equal → not (is_before_start name lo a) ≡ is_from lo a.entry.key
start_test name Start a e = rw e refl
start_test name (At low) a e = rw e (turned_lt _ _ (key_total.antisymm low a.entry.key))
start_test name (Past low) a e = rw e (turned_le _ _ (key_total.antisymm low a.entry.key))

end_test : (name : List ℕ) (hi : Hi) (a : Added) → bytes_cmp a.entry.name name ≡ Equal → is_before_end name hi a ≡ is_up_to hi a.entry.key
end_test name End a e = rw e refl
end_test name (Before high) a e = rw e refl

-- a lesser name stands before the start, and a greater one past the end
start_less : (name : List ℕ) (lo : Lo) (a : Added) → bytes_cmp a.entry.name name ≡ Less → not (is_before_start name lo a) ≡ false
start_less name Start a e = rw e refl
start_less name (At low) a e = rw e refl
start_less name (Past low) a e = rw e refl

end_greater : (name : List ℕ) (hi : Hi) (a : Added) → bytes_cmp a.entry.name name ≡ Greater → is_before_end name hi a ≡ false
end_greater name End a e = rw e refl
end_greater name (Before high) a e = rw e refl

in_test : (name : List ℕ) (range : KeyRange) (a : Added) (r : Ordering) → bytes_cmp a.entry.name name ≡ r
    → (is_eq r && in_range range a.entry.key) ≡ (not (is_before_start name range.lo a) && is_before_end name range.hi a)
in_test name range a Less e = rw (start_less name range.lo a e) refl
in_test name range a Equal e = rw (start_test name range.lo a e, end_test name range.hi a e) refl
in_test name range a Greater e = rw (end_greater name range.hi a e) (sym (and_false _))

module _ (name : List ℕ) (range : KeyRange) (xs : List Added) (start end : ℕ)
    (low : IsCut (is_before_start name range.lo) xs start) (high : IsCut (is_before_end name range.hi) xs end) where
  -- the entries of the range
  window : filter (λ a. in_range range a.entry.key) (filter (has_name name) xs) ≡ take (end - start) (drop start xs)
  window =
      filter_both (λ a. in_range range a.entry.key) (has_name name) xs
      ∙ filter_alike _ (λ a. not (is_before_start name range.lo a) && is_before_end name range.hi a)
      (λ a. rw (texts_ties a.entry.name name) (in_test name range a (bytes_cmp a.entry.name name) refl)) xs
      ∙ sym (filter_both (is_before_end name range.hi) (λ a. not (is_before_start name range.lo a)) xs)
      ∙ ap (filter (is_before_end name range.hi)) (cut_back (is_before_start name range.lo) xs start low)
      ∙ cut_window (is_before_end name range.hi) xs end high start

  -- the pairs of the range
  pub pairs_between : (stop : ℕ) → stop ≡ max end start → map pair_of (take (stop - start) (drop start xs)) ≡ filter (λ p. in_range range p.second) (pairs_under name xs)
  pairs_between stop is =
      let same : stop - start ≡ end - start = omega arith in
      rw same (ap (map pair_of) (sym window) ∙ sym (filter_map_first pair_of (λ p. in_range range p.second) (filter (has_name name) xs)))

-- the keys of their pairs
pub keys_behind : (entries : List Added) → map (λ (a : Added). a.key) entries ≡ map (λ p. p.key) (map pair_of entries)
keys_behind entries = sym (map_both pair_of (λ p. p.key) entries)
