-- Actions, one after another.
use Rattle.std.proofs.Common.{◌≡◌, ℕ, zero, suc, ◌+◌, ◌<◌, ◌≤◌, true, false, leb, List, [], ◌∷◌, length, get_or, drop, Some, None, refl, sym, ap, ◌∙◌, arith}
use Rattle.std.specs.Prelude.{◌&&◌}
use Rattle.std.specs.List.{list_all}
use Rattle.std.proofs.lemmas.Bool.{and_parts, leb-true}
use Rattle.std.proofs.lemmas.List.{at_drop_more, at_drop_all}
use Rattle.ox_types.specs.declared.log.Entry.{Entry}
use Rattle.ox_types.specs.declared.log.Head.{Head}
use Rattle.ox_types.specs.declared.log.Seat.{Seat}
use Rattle.ox_types.specs.declared.durable.Action.{Action}
use Rattle.ox_types.specs.declared.durable.Action.TheVariants as action_is
use Rattle.ox_types.specs.Durable.{DurableState, is_lawful, folded, fold_on}
use Rattle.ox_types.specs.Limits.{count_limit}
use Rattle.ox_bytes.specs.LogForms.{term, count, seat, entry, head}
use Rattle.ox_bytes.specs.Fields.{number64, octets}
use Rattle.ox_wal.specs.ActionForms.{action}
use Rattle.ox_wal.specs.Blocks.{full_at, first_full}

-- the entries of a lawful Append are lawful
pub append_lawful : (a : Action) (es : List Entry) → a ≡ action_is.Append es → action.is_lawful a ≡ true → list_all entry.is_lawful es ≡ true
unfolding action
append_lawful a es is h = (and_parts _ (list_all entry.is_lawful es) (ap (λ (b : Action). action.is_lawful b) (sym is) ∙ h)).1

-- the head of a lawful Restore
pub restore_lawful : (a : Action) (t : ℕ) (s : Seat) (h : Head) (b : List ℕ) → a ≡ action_is.Restore t s h b → action.is_lawful a ≡ true → h.count ≤ count_limit
unfolding action head
restore_lawful a t s h b is lawful =
    let all : action.is_lawful (action_is.Restore t s h b) ≡ true = ap (λ (b : Action). action.is_lawful b) (sym is) ∙ lawful in
    let rest = (and_parts (term.is_lawful t) (seat.is_lawful s && (head.is_lawful h && octets.is_lawful b)) all).1 in
    let behind = (and_parts (seat.is_lawful s) (head.is_lawful h && octets.is_lawful b) rest).1 in
    let whole = (and_parts (head.is_lawful h) (octets.is_lawful b) behind).0 in
    let number = (and_parts (term.is_lawful h.term) (count.is_lawful h.count) whole).1 in
    leb-true h.count count_limit (and_parts (number64.is_lawful h.count) (leb h.count count_limit) number).1

-- an item of lawful actions is lawful
pub item_lawful : (actions : List Action) (i : ℕ) (a : Action) → list_all action.is_lawful actions ≡ true → i < length actions → a ≡ get_or actions i a → action.is_lawful a ≡ true
item_lawful [] i a all lt is = absurd (omega arith)
item_lawful (x ∷ actions) zero a all lt is = ap (λ (b : Action). action.is_lawful b) is ∙ (and_parts (action.is_lawful x) (list_all action.is_lawful actions) all).0
item_lawful (x ∷ actions) (suc i) a all lt is = item_lawful actions i a (and_parts (action.is_lawful x) (list_all action.is_lawful actions) all).1 (omega arith) is

-- the action at hand, of those that are left
module _ (all : ℕ) (d : DurableState) (actions : List Action) (i : ℕ) (a : Action) (lt : i < length actions) (is : a ≡ get_or actions i a) where
  fold_here : fold_on false d (drop i actions) ≡ fold_on false d (a ∷ drop (i + 1) actions)
  fold_here = at_drop_more (λ (l : List Action). fold_on false d l) actions i a lt ∙ ap (λ (b : Action). fold_on false d (b ∷ drop (i + 1) actions)) (sym is)

  full_here : first_full all d (drop i actions) ≡ first_full all d (a ∷ drop (i + 1) actions)
  full_here = at_drop_more (λ (l : List Action). first_full all d l) actions i a lt ∙ ap (λ (b : Action). first_full all d (b ∷ drop (i + 1) actions)) (sym is)

  pub fold_step : is_lawful false d a ≡ true → fold_on false d (drop i actions) ≡ fold_on false (folded d a) (drop (i + 1) actions)
  fold_step lawful = fold_here ∙ rw lawful refl

  pub fold_stop : is_lawful false d a ≡ false → fold_on false d (drop i actions) ≡ None
  fold_stop unlawful = fold_here ∙ rw unlawful refl

  pub full_step : full_at all d a ≡ None → first_full all d (drop i actions) ≡ first_full all (folded d a) (drop (i + 1) actions)
  full_step fits = full_here ∙ rw fits refl

  pub full_stop : (x : ℕ × ℕ) → full_at all d a ≡ Some x → first_full all d (drop i actions) ≡ Some x
  full_stop x full = full_here ∙ rw full refl

pub fold_end : (d : DurableState) (actions : List Action) (i : ℕ) → length actions ≤ i → fold_on false d (drop i actions) ≡ Some d
fold_end d actions i le = at_drop_all (λ (l : List Action). fold_on false d l) actions i le

pub full_end : (all : ℕ) (d : DurableState) (actions : List Action) (i : ℕ) → length actions ≤ i → first_full all d (drop i actions) ≡ None
full_end all d actions i le = at_drop_all (λ (l : List Action). first_full all d l) actions i le
