-- The entries of a log from one offset up to another, one by one.
use Rattle.std.proofs.Common.{◌≡◌, ◌∙◌, ◌≤◌, ℕ, ◌+◌, ◌-◌, Bool, true, false, List, [], ◌∷◌, ◌++◌, max, take, drop, slice_get, Option, Some, None, nat_lt, if◌then◌else◌, refl, sym, ap, arith, append-nil}
use Rattle.ox_types.specs.declared.log.Entry.{Entry}
use Rattle.ox_types.specs.Durable.{DurableState}
use Rattle.ox_wal.specs.Follow.{entry_at}
use Rattle.oxia_top.specs.Node.{between}

take_suc : {X : Type 0} (xs : List X) (i : ℕ) (x : X) → slice_get xs i ≡ Some x → take (ℕ.suc i) xs ≡ take i xs ++ x ∷ []
take_suc [] i x h = absurd cc
take_suc (y ∷ xs) ℕ.zero x h = let e : y ≡ x = cc in ap (λ z. z ∷ []) e
take_suc (y ∷ xs) (ℕ.suc i) x h = ap (λ zs. y ∷ zs) (take_suc xs i x h)

get_behind : {X : Type 0} (xs : List X) (n i j : ℕ) → j ≡ n + i → slice_get (drop n xs) i ≡ slice_get xs j
get_behind [] ℕ.zero i j e = refl
get_behind [] (ℕ.suc n) i j e = refl
get_behind (y ∷ xs) ℕ.zero i j e = let f : j ≡ i = omega (arith, e) in rw f refl
get_behind (y ∷ xs) (ℕ.suc n) i ℕ.zero e = absurd (omega (arith, e))
get_behind (y ∷ xs) (ℕ.suc n) i (ℕ.suc j) e = get_behind xs n i j (omega (arith, e))

entry_by : (b : Bool) (o : Option Entry) (e : Entry) → b ≡ false → (if b then None else o) ≡ Some e → o ≡ Some e
entry_by true o e f h = absurd cc
entry_by false o e f h = h

nat_lt_false : (a b : ℕ) → b ≤ a → nat_lt a b ≡ false
nat_lt_false a b h = grind (arith, h)

-- one entry more
pub next_between : (d : DurableState) (from offset : ℕ) (e : Entry) → d.base.count ≤ from → from ≤ offset → entry_at d offset ≡ Some e
    → between d from (offset + 1) ≡ between d from offset ++ e ∷ []
next_between d from offset e base within here =
    let at : slice_get d.entries (offset - d.base.count) ≡ Some e = entry_by (nat_lt offset d.base.count) _ e (nat_lt_false offset d.base.count (omega (arith, base, within))) here in
    let behind : slice_get (drop (from - d.base.count) d.entries) (offset - from) ≡ Some e =
    get_behind d.entries (from - d.base.count) (offset - from) (offset - d.base.count) (omega (arith, base, within)) ∙ at in
    let count : offset + 1 - from ≡ ℕ.suc (offset - from) = omega (arith, within) in
    rw count (take_suc (drop (from - d.base.count) d.entries) (offset - from) e behind)

-- none yet
pub first_between : (d : DurableState) (from : ℕ) (into : List Entry) → into ≡ into ++ between d from from
first_between d from into = let e : from - from ≡ 0 = omega arith in rw e (sym (append-nil into))

-- all of them
pub last_between : (d : DurableState) (from to offset : ℕ) (into into' : List Entry) → to ≤ offset → offset ≤ max from to → into' ≡ into ++ between d from offset → into' ≡ into ++ between d from to
last_between d from to offset into into' end reach h = let e : offset - from ≡ to - from = omega (arith, end, reach) in rw (← e) h
