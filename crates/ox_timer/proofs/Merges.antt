-- What a merge finds among the timers that ran before.
use Rattle.std.proofs.Common.{◌≡◌, ◌+◌, ◌<◌, ◌≤◌, ℕ, zero, suc, Bool, true, false, cond, nat_lt, nat_eq, List, [], ◌∷◌, ◌++◌, length, drop, Option, Some, None, refl, ◌∙◌, ap, arith, add-one, drop-cons, append_assoc, slice_index_or}
use Rattle.std.specs.Prelude.{All}
use Rattle.std.proofs.lemmas.Bool.{ltb-true, eq-eqb}
use Rattle.std.proofs.lemmas.Bool.Decides.{nat_tests}
use Rattle.std.proofs.lemmas.List.Elements.{All-map}
use Rattle.std.proofs.lemmas.List.{drop_all}
use Rattle.ox_types.specs.declared.timer.Timer.{Timer}
use Rattle.ox_types.specs.Timers.{IdsRise}
use Rattle.ox_timer.specs.declared.running.Running.{Running}
use Rattle.ox_timer.specs.Order.{RunningRise}
use Rattle.ox_timer.specs.Timers.{running_at, goes_on, retimed, from_id}

pub different : (a b : ℕ) → b < a → nat_eq a b ≡ false
different a b h = grind (arith, nat_tests)

pub different_below : (a b : ℕ) → a < b → nat_eq a b ≡ false
different_below a b h = grind (arith, nat_tests)

pub rise_tail : (r : Running) (running : List Running) → RunningRise (r ∷ running) → RunningRise running
rise_tail r running h i j d below within = h (suc i) (suc j) d (omega arith) (omega arith)

pub rise_drop : (n : ℕ) (running : List Running) → RunningRise running → RunningRise (drop n running)
rise_drop zero running h = h
rise_drop (suc n) [] h = h
rise_drop (suc n) (r ∷ running) h = rise_drop n running (rise_tail r running h)

-- the first id is below the other ones
pub rise_first : (r : Running) (running : List Running) → RunningRise (r ∷ running) → All (λ (x : Running). r.id < x.id) running
rise_first r running h k d within = h 0 (suc k) d (omega arith) (omega arith)

-- an id below the first one is below all
above_all : (id : ℕ) (r : Running) (running : List Running) → id < r.id → All (λ (x : Running). r.id < x.id) running → All (λ (x : Running). id < x.id) (r ∷ running)
above_all id r running first others zero d within = first
above_all id r running first others (suc k) d within =
    let next : r.id < (slice_index_or running k d).id = others k d (omega arith) in
    omega arith

-- an id below all is none of them
pub running_at-above : (id : ℕ) (running : List Running) → All (λ (x : Running). id < x.id) running → running_at id running ≡ None
running_at-above id [] h = refl
running_at-above id (r ∷ running) h =
    let first : id < r.id = h 0 r (omega arith) in
    rw (different r.id id first) (running_at-above id running (λ k d within. h (suc k) d (omega arith)))

from_cases : (id at : ℕ) (r : Running) (running : List Running) → id ≤ at → (test : Bool) → nat_lt r.id id ≡ test
    → running_at at (from_id id running) ≡ running_at at running
    → running_at at (cond test (from_id id running) (r ∷ running)) ≡ running_at at (r ∷ running)
from_cases id at r running le true e rest =
    let low : r.id < id = ltb-true r.id id e in
    let first : r.id < at = omega arith in
    rw (different_below r.id at first) rest
from_cases id at r running le false e rest = refl

-- a greater id is found behind the lesser ones
pub running_at-from_id : (id at : ℕ) (running : List Running) → id ≤ at → running_at at (from_id id running) ≡ running_at at running
running_at-from_id id at [] le = refl
running_at-from_id id at (r ∷ running) le = from_cases id at r running le (nat_lt r.id id) refl (running_at-from_id id at running le)

pub retimed-from_id : (now id : ℕ) (timers : List Timer) (running : List Running) → All (λ (t : Timer). id < t.id) timers
    → retimed now timers (from_id id running) ≡ retimed now timers running
retimed-from_id now id [] running h = refl
retimed-from_id now id (t ∷ timers) running h =
    let first : id < t.id = h 0 t (omega arith) in
    let le : id ≤ t.id = omega arith in
    rw (running_at-from_id id t.id running le) (ap (λ (rest : List Running). goes_on now t (running_at t.id running) ∷ rest) (retimed-from_id now id timers running (λ k d within. h (suc k) d (omega arith))))

-- the timer that stands first has the id, or there is none
pub running_at-first : (id at : ℕ) (running : List Running) (d : Running) → at < length running → (slice_index_or running at d).id ≡ id → running_at id (drop at running) ≡ Some (slice_index_or running at d)
running_at-first id at running d within is = rw (drop-cons running at d within, eq-eqb (slice_index_or running at d).id id is) refl

-- the first id is greater, and so are those behind it
pub running_at-greater : (id at : ℕ) (running : List Running) (d : Running) → RunningRise running → at < length running → id < (slice_index_or running at d).id → running_at id (drop at running) ≡ None
running_at-greater id at running d rise within greater =
    let behind : RunningRise (slice_index_or running at d ∷ drop (suc at) running) = rw (drop-cons running at d within) at (rise_drop at running rise) in
    let others = rise_first (slice_index_or running at d) (drop (suc at) running) behind in
    rw (drop-cons running at d within)
    (running_at-above id (slice_index_or running at d ∷ drop (suc at) running) (above_all id (slice_index_or running at d) (drop (suc at) running) greater others))

pub running_at-past : (id at : ℕ) (running : List Running) → length running ≤ at → running_at id (drop at running) ≡ None
running_at-past id at running past = rw (drop_all at running past) refl

pub goes_on-id : (now : ℕ) (t : Timer) (o : Option Running) → (goes_on now t o).id ≡ t.id
goes_on-id now t None = refl
goes_on-id now t (Some r) = refl

-- the timers that go on stand by rising id
pub rise_retimed : (now : ℕ) (timers : List Timer) (running : List Running) → IdsRise timers → RunningRise (retimed now timers running)
rise_retimed now [] running h i j d below within = absurd (omega arith)
rise_retimed now (t ∷ timers) running h i zero d below within = absurd (omega arith)
rise_retimed now (t ∷ timers) running h zero (suc j) d below within =
    rw (goes_on-id now t (running_at t.id running))
    (All-map (λ (x : Running). t.id < x.id) (λ (u : Timer). goes_on now u (running_at u.id running)) timers (λ k e inside. rw goes_on-id (h.0 k e inside)) j d (omega arith))
rise_retimed now (t ∷ timers) running h (suc i) (suc j) d below within = rise_retimed now timers running h.1 i j d (omega arith) (omega arith)

-- one timer more
pub retimed-more : (now : ℕ) (t : Timer) (timers : List Timer) (running : List Running) → IdsRise (t ∷ timers)
    → goes_on now t (running_at t.id (from_id t.id running)) ∷ retimed now timers (from_id t.id running) ≡ retimed now (t ∷ timers) running
retimed-more now t timers running h =
    rw (running_at-from_id t.id t.id running (omega arith), retimed-from_id now t.id timers running h.0) refl

-- one timer more of a merge
pub merge_step : (now i at place : ℕ) (timers : List Timer) (running done next whole : List Running) (made : Running) (d : Timer) → i < length timers → IdsRise (drop i timers)
    → next ≡ done ++ made ∷ [] → made ≡ goes_on now (slice_index_or timers i d) (running_at (slice_index_or timers i d).id (drop place running))
    → drop place running ≡ from_id (slice_index_or timers i d).id (drop at running)
    → done ++ retimed now (drop i timers) (drop at running) ≡ whole
    → next ++ retimed now (drop (i + 1) timers) (drop place running) ≡ whole
merge_step now i at place timers running done next whole made d within rise next-is made-is behind so-far =
    let t = slice_index_or timers i d in
    let rest : IdsRise (t ∷ drop (suc i) timers) = rw (drop-cons timers i d within) at rise in
    let same : made ∷ retimed now (drop (i + 1) timers) (drop place running) ≡ retimed now (drop i timers) (drop at running) =
    rw (made-is, behind, add-one, drop-cons timers i d within) (retimed-more now t (drop (suc i) timers) (drop at running) rest) in
    rw (next-is, append_assoc) (ap (λ (xs : List Running). done ++ xs) same ∙ so-far)
