-- One step of the loops over entries and over records that are gone.
use Rattle.std.proofs.Common.{◌≡◌, ◌∙◌, sym, ap, refl, ℕ, ◌+◌, ◌<◌, Bool, true, false, List, ◌∷◌, length, drop, get_or}
use Rattle.std.specs.Prelude.{◌||◌, ◌&&◌, not}
use Rattle.std.specs.Ordering.{is_eq}
use Rattle.std.proofs.lemmas.List.{at_drop_more}
use Rattle.ox_ops.specs.declared.write.IndexEntry.{IndexEntry}
use Rattle.ox_ops.specs.declared.answer.Record.{Record}
use Rattle.ox_index.specs.declared.added.Added.{Added}
use Rattle.ox_index.specs.Order.{added_cmp}
use Rattle.ox_index.specs.Pairs.{has_added, with_added, without_added}
use Rattle.ox_index.specs.PairLaws.{has-with, has-without}
use Rattle.ox_shard.specs.Lists.{entries_at, added_by, all_added, left_by, left_by_all}
use Rattle.ox_shard.proofs.Keys.{has-cons}

out : (e g h : Bool) → (not g && (not e && h)) ≡ (not (e || g) && h)
out true true h = refl
out true false h = refl
out false g h = refl

into : (e g h : Bool) → (g || (e || h)) ≡ ((e || g) || h)
into true true h = refl
into true false h = refl
into false g h = refl

module _ (q : Added) (key : List ℕ) (entries : List IndexEntry) (i : ℕ) (e : IndexEntry) (before after : List Added) (within : i < length entries) (is : e ≡ get_or entries i e) where
  -- the entry is taken out
  pub drop-step : after ≡ without_added (record { entry = e; key = key }) before → (not (has_added q (entries_at key (drop (i + 1) entries))) && has_added q after) ≡ (not (has_added q (entries_at key (drop i entries))) && has_added q before)
  drop-step then =
      let split = at_drop_more (λ (es : List IndexEntry). not (has_added q (entries_at key es)) && has_added q before) entries i e within ∙ ap (λ (x : IndexEntry). not (has_added q (entries_at key (x ∷ drop (i + 1) entries))) && has_added q before) (sym is) in
      ap (λ (xs : List Added). not (has_added q (entries_at key (drop (i + 1) entries))) && has_added q xs) then
      ∙ ap (λ (b : Bool). not (has_added q (entries_at key (drop (i + 1) entries))) && b) (has-without (record { entry = e; key = key }) q before)
      ∙ out (is_eq (added_cmp (record { entry = e; key = key }) q)) (has_added q (entries_at key (drop (i + 1) entries))) (has_added q before) ∙ sym split

  -- the entry is added
  pub add-step : after ≡ with_added (record { entry = e; key = key }) before → (has_added q (entries_at key (drop (i + 1) entries)) || has_added q after) ≡ (has_added q (entries_at key (drop i entries)) || has_added q before)
  add-step then =
      let split = at_drop_more (λ (es : List IndexEntry). has_added q (entries_at key es) || has_added q before) entries i e within ∙ ap (λ (x : IndexEntry). has_added q (entries_at key (x ∷ drop (i + 1) entries)) || has_added q before) (sym is) in
      ap (λ (xs : List Added). has_added q (entries_at key (drop (i + 1) entries)) || has_added q xs) then
      ∙ ap (λ (b : Bool). has_added q (entries_at key (drop (i + 1) entries)) || b) (has-with (record { entry = e; key = key }) q before)
      ∙ into (is_eq (added_cmp (record { entry = e; key = key }) q)) (has_added q (entries_at key (drop (i + 1) entries))) (has_added q before) ∙ sym split

module _ (gone : List Record) (i : ℕ) (g : Record) (within : i < length gone) (is : g ≡ get_or gone i g) where
  -- the record leaves its session
  pub left-step : (q : ℕ) (before after : List (List ℕ)) → after ≡ left_by q g before → left_by_all q (drop (i + 1) gone) after ≡ left_by_all q (drop i gone) before
  left-step q before after then =
      ap (left_by_all q (drop (i + 1) gone)) then
      ∙ sym (at_drop_more (λ (gs : List Record). left_by_all q gs before) gone i g within ∙ ap (λ (x : Record). left_by_all q (x ∷ drop (i + 1) gone) before) (sym is))

  -- its entries are taken out
  pub gone-step : (q : Added) (before after : Bool) → after ≡ (not (has_added q (added_by g)) && before) → (not (has_added q (all_added (drop (i + 1) gone))) && after) ≡ (not (has_added q (all_added (drop i gone))) && before)
  gone-step q before after then =
      let split = at_drop_more (λ (gs : List Record). not (has_added q (all_added gs)) && before) gone i g within ∙ ap (λ (x : Record). not (has_added q (all_added (x ∷ drop (i + 1) gone))) && before) (sym is) in
      ap (λ (b : Bool). not (has_added q (all_added (drop (i + 1) gone))) && b) then
      ∙ out (has_added q (added_by g)) (has_added q (all_added (drop (i + 1) gone))) before
      ∙ ap (λ (b : Bool). not b && before) (sym (has-cons q g (drop (i + 1) gone))) ∙ sym split
