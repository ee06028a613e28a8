-- One batch behind others.
use Rattle.std.proofs.Common.{◌≡◌, ℕ, Bool, true, false, cond, List, [], ◌∷◌, ◌++◌, Option, Some, None, refl, sym, ap, ◌∙◌, append_assoc}
use Rattle.std.specs.Prelude.{option_and_then}
use Rattle.std.specs.Result.{result_ok}
use Rattle.std.proofs.lemmas.List.{append-nil}
use Rattle.std.proofs.lemmas.Option.{same_Some}
use Rattle.ox_types.specs.declared.durable.Action.{Action}
use Rattle.ox_types.specs.declared.durable.Action.TheVariants as action_is
use Rattle.ox_types.specs.Durable.{DurableState, blank, is_lawful, folded, fold_on, fold_actions}
use Rattle.ox_bytes.specs.FieldLaws.{whole_again}
use Rattle.ox_wal.specs.ActionForms.{actions}
use Rattle.ox_wal.specs.ActionLaws.{actions_exact}
use Rattle.ox_wal.specs.Files.{actions_of, joined, actions_in, still_first, state_in}

passes : (b : Bool) (o : Option DurableState) (d : DurableState) → cond b o None ≡ Some d → (b ≡ true) × (o ≡ Some d)
passes true o d h = (refl, h)
passes false o d h = absurd cc

taken : (b : Bool) (o : Option DurableState) (d : DurableState) → b ≡ true → o ≡ Some d → cond b o None ≡ Some d
taken true o d h k = k
taken false o d h k = absurd cc

never_first : (actions : List Action) → still_first false actions ≡ false
never_first [] = refl
never_first (a ∷ others) = refl

pub fold-append : (first : Bool) (d : DurableState) (xs ys : List Action) (between : DurableState) → fold_on first d xs ≡ Some between → fold_on first d (xs ++ ys) ≡ fold_on (still_first first xs) between ys
fold-append first d [] ys between h = ap (λ (s : DurableState). fold_on first s ys) (same_Some d between h)
fold-append first d (x ∷ xs) ys between h =
    let p = passes (is_lawful first d x) (fold_on false (folded d x) xs) between h in
    rw p.0 (fold-append false (folded d x) xs ys between p.1 ∙ ap (λ (b : Bool). fold_on b between ys) (never_first xs))

lawful_first : (first : Bool) (d : DurableState) (a : Action) → is_lawful false d a ≡ true → is_lawful first d a ≡ true
lawful_first first d (action_is.Term t) h = h
lawful_first first d (action_is.Attach c) h = h
lawful_first first d action_is.Lead h = h
lawful_first first d (action_is.Append es) h = h
lawful_first first d (action_is.Restore t s h b) k = absurd cc

-- what folds behind others folds at the front too
pub fold_first : (first : Bool) (d : DurableState) (xs : List Action) (behind : DurableState) → fold_on false d xs ≡ Some behind → fold_on first d xs ≡ Some behind
fold_first first d [] behind h = h
fold_first first d (x ∷ xs) behind h =
    let p = passes (is_lawful false d x) (fold_on false (folded d x) xs) behind h in
    rw (lawful_first first d x p.0) p.1

-- the parts of what is joined
pub joined_parts : (a b : Option (List Action)) (xs : List Action) → joined a b ≡ Some xs → (first : List Action) × (others : List Action) × (a ≡ Some first) × (b ≡ Some others) × (first ++ others ≡ xs)
joined_parts None b xs h = absurd cc
joined_parts (Some first) None xs h = absurd cc
joined_parts (Some first) (Some others) xs h = (first, others, refl, refl, same_Some (first ++ others) xs h)

pub actions-push : (payloads : List (List ℕ)) (payload : List ℕ) (xs ys : List Action) → actions_in payloads ≡ Some xs → actions_of payload ≡ Some ys → actions_in (payloads ++ payload ∷ []) ≡ Some (xs ++ ys)
actions-push [] payload xs ys h k =
    let none : [] ≡ xs = same_Some [] xs h in
    ap (λ (o : Option (List Action)). joined o (Some [])) k ∙ ap (λ (l : List Action). Some l) (append-nil ys ∙ ap (λ (l : List Action). l ++ ys) none)
actions-push (p ∷ payloads) payload xs ys h k =
    let parts = joined_parts (actions_of p) (actions_in payloads) xs h in
    let rest = actions-push payloads payload parts.1 ys parts.3 k in
    ap (λ (o : Option (List Action)). joined o (actions_in (payloads ++ payload ∷ []))) parts.2
    ∙ ap (λ (o : Option (List Action)). joined (Some parts.0) o) rest
    ∙ ap (λ (l : List Action). Some l) (sym (append_assoc parts.0 parts.1 ys) ∙ ap (λ (l : List Action). l ++ ys) parts.4)

-- the actions that a state comes from
pub state_parts : (o : Option (List Action)) (d : DurableState) → option_and_then fold_actions o ≡ Some d → (xs : List Action) × (o ≡ Some xs) × (fold_actions xs ≡ Some d)
state_parts None d h = absurd cc
state_parts (Some xs) d h = (xs, refl, h)

-- a batch that folds behind the state of some payloads
pub state-push : (payloads : List (List ℕ)) (payload : List ℕ) (ys : List Action) (d behind : DurableState) → state_in payloads ≡ Some d → actions_of payload ≡ Some ys → fold_on false d ys ≡ Some behind → state_in (payloads ++ payload ∷ []) ≡ Some behind
state-push payloads payload ys d behind h k folds =
    let parts = state_parts (actions_in payloads) d h in
    let xs = parts.0 in
    ap (λ (o : Option (List Action)). option_and_then fold_actions o) (actions-push payloads payload xs ys parts.1 k)
    ∙ fold-append true blank xs ys d parts.2
    ∙ fold_first (still_first true xs) d ys behind folds

-- the payload of a batch
pub batch_read : (ys : List Action) (text : List ℕ) → actions.is_lawful ys ≡ true → text ≡ actions.text ys → actions_of text ≡ Some ys
batch_read ys text lawful is = ap actions_of is ∙ ap result_ok (whole_again actions actions_exact ys lawful)

still-append : (first : Bool) (xs ys : List Action) → still_first (still_first first xs) ys ≡ still_first first (xs ++ ys)
still-append first [] ys = refl
still-append first (x ∷ xs) ys = never_first ys

-- payloads of which the first ones stand for a state
pub state_between : (payloads : List (List ℕ)) (xs : List Action) (d : DurableState) → actions_in payloads ≡ Some xs → fold_actions xs ≡ Some d → state_in payloads ≡ Some d
state_between payloads xs d are folds = ap (λ (o : Option (List Action)). option_and_then fold_actions o) are ∙ folds

pub first-push : (xs ys : List Action) (first still : Bool) → first ≡ still_first true xs → still ≡ still_first first ys → still ≡ still_first true (xs ++ ys)
first-push xs ys first still h k = k ∙ ap (λ (b : Bool). still_first b ys) h ∙ still-append true xs ys

pub fold-push : (xs ys : List Action) (first : Bool) (d behind : DurableState) → fold_actions xs ≡ Some d → first ≡ still_first true xs → fold_on first d ys ≡ Some behind → fold_actions (xs ++ ys) ≡ Some behind
fold-push xs ys first d behind folds h k = fold-append true blank xs ys d folds ∙ ap (λ (b : Bool). fold_on b d ys) (sym h) ∙ k

actions_none : (payloads : List (List ℕ)) (payload : List ℕ) → actions_of payload ≡ None → actions_in (payloads ++ payload ∷ []) ≡ None
actions_none [] payload h = ap (λ (o : Option (List Action)). joined o (Some [])) h
actions_none (p ∷ payloads) payload h = ap (λ (o : Option (List Action)). joined (actions_of p) o) (actions_none payloads payload h) ∙ nothing (actions_of p)
  where
    nothing : (o : Option (List Action)) → joined o None ≡ None
    nothing None = refl
    nothing (Some xs) = refl

-- a payload that isn't a list of actions, or doesn't fold
pub state_none : (payloads : List (List ℕ)) (payload : List ℕ) (xs : List Action) (first : Bool) (d : DurableState) → actions_in payloads ≡ Some xs → fold_actions xs ≡ Some d → first ≡ still_first true xs
    → ((ys : List Action) → actions_of payload ≡ Some ys → fold_on first d ys ≡ None) → state_in (payloads ++ payload ∷ []) ≡ None
state_none payloads payload xs first d are folds h none = by_actions (actions_of payload) refl
  where
    by_actions : (o : Option (List Action)) → actions_of payload ≡ o → state_in (payloads ++ payload ∷ []) ≡ None
    by_actions None is = ap (λ (o : Option (List Action)). option_and_then fold_actions o) (actions_none payloads payload is)
    by_actions (Some ys) is =
        ap (λ (o : Option (List Action)). option_and_then fold_actions o) (actions-push payloads payload xs ys are is)
        ∙ fold-append true blank xs ys d folds ∙ ap (λ (b : Bool). fold_on b d ys) (sym h) ∙ none ys is

-- what the first payloads stand for, where all stand for a state
actions_front : (xs ys : List (List ℕ)) (all : List Action) → actions_in (xs ++ ys) ≡ Some all → (front : List Action) × (behind : List Action) × (actions_in xs ≡ Some front) × (front ++ behind ≡ all)
actions_front [] ys all h = ([], all, refl, refl)
actions_front (x ∷ xs) ys all h =
    let parts = joined_parts (actions_of x) (actions_in (xs ++ ys)) all h in
    let rest = actions_front xs ys parts.1 parts.3 in (
      parts.0 ++ rest.0,
      rest.1,
      ap (λ (o : Option (List Action)). joined o (actions_in xs)) parts.2 ∙ ap (λ (o : Option (List Action)). joined (Some parts.0) o) rest.2,
      append_assoc parts.0 rest.0 rest.1 ∙ ap (λ (l : List Action). parts.0 ++ l) rest.3 ∙ parts.4,
    )

fold_front : (first : Bool) (d : DurableState) (xs ys : List Action) (behind : DurableState) → fold_on first d (xs ++ ys) ≡ Some behind → (between : DurableState) × (fold_on first d xs ≡ Some between)
fold_front first d [] ys behind h = (d, refl)
fold_front first d (x ∷ xs) ys behind h =
    let p = passes (is_lawful first d x) (fold_on false (folded d x) (xs ++ ys)) behind h in
    let rest = fold_front false (folded d x) xs ys behind p.1 in
    (rest.0, taken (is_lawful first d x) (fold_on false (folded d x) xs) rest.0 p.0 rest.1)

pub state_front : (xs ys : List (List ℕ)) (d : DurableState) → state_in (xs ++ ys) ≡ Some d → (between : DurableState) × (state_in xs ≡ Some between)
state_front xs ys d h =
    let parts = state_parts (actions_in (xs ++ ys)) d h in
    let front = actions_front xs ys parts.0 parts.1 in
    let fold = fold_front true blank front.0 front.1 d (ap (λ (l : List Action). fold_actions l) front.3 ∙ parts.2) in
    (fold.0, state_between xs front.0 fold.0 front.2 fold.1)
