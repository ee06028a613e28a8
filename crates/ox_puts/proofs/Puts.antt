-- The operations on a shard, told by its records.
use Rattle.std.proofs.Common.{◌≡◌, ◌≤◌, ◌<◌, ◌+◌, ◌-◌, ℕ, Bool, true, List, [], ◌∷◌, Option, Some, None, All, filter, sum_by, refl, sym, ap, subst, arith, inl, inr}
use Rattle.std.specs.Option.{ForSome}
use Rattle.std.proofs.lemmas.Bool.{cases_Bool}
use Rattle.std.proofs.lemmas.List.Elements.{All-append, All-cons, All-filter, All-head, All-tail, All-weaker}
use Rattle.std.proofs.lemmas.Option.{same_Some}
use Rattle.ox_table.specs.Table.{IsRising}
use Rattle.ox_ops.specs.declared.reply.OpReply.{OpReply}
use Rattle.ox_ops.specs.declared.answer.Record.{Record}
use Rattle.ox_ops.specs.State.{ShardState, has_key, record_of, with_record}
use Rattle.ox_ops.specs.Weight.{record_weight, weight_limit}
use Rattle.ox_ops.specs.Operation.{refused, meta_over}
use Rattle.ox_puts.specs.Records.{RecordsState, IsOf, IsCounted, IsSound, IsKept, keyed}
use Rattle.ox_puts.specs.Changes.{effect, refusal_of}

-- what holds of all holds of the one that is found
pub found : (P : Record → Type 0) (key : List ℕ) (rs : List Record) → All P rs → ForSome (record_of key rs) P
found P key [] h x e = cc e
found P key (r ∷ rs) h x e = elim (cases_Bool (has_key key r)) [
  | inl same ↦ subst P (same_Some r x (rw same at e)) (All-head P r rs h)
  | inr other ↦ found P key rs (All-tail P r rs h) x (rw other at e)
]

-- a record has no more modifications than the version that it gets
pub modifications-over : (version time : ℕ) (old : Option Record) → ForSome old (λ r. r.meta.modifications < version) → (meta_over version time old).modifications ≤ version
modifications-over version time None h = omega arith
modifications-over version time (Some r) h = let lower : r.meta.modifications < version = h r refl in omega arith

pub counted_below : (next : ℕ) (key : List ℕ) (rs : List Record) → All (IsCounted next) rs → ForSome (record_of key rs) (λ r. r.meta.modifications < next)
counted_below next key rs h x e =
    let one : IsCounted next x = found (IsCounted next) key rs h x e in
    omega arith

later : (n : ℕ) (r : Record) → IsCounted n r → IsCounted (n + 1) r
later n r h = record { version = omega arith; modifications = h.modifications }

-- the records stay sound where one is stored
pub sound-stored : (t : RecordsState) (r : Record) → IsSound t → r.meta.version ≡ t.next_version → r.meta.modifications ≤ t.next_version → IsRising (keyed (with_record r t.records)) → sum_by record_weight (with_record r t.records) + t.other ≤ weight_limit → IsSound (record { records = with_record r t.records; next_version = t.next_version + 1; other = t.other })
sound-stored t r h v m up light =
    let P : Record → Type 0 = IsCounted (t.next_version + 1) in
    let all : All P t.records = All-weaker (IsCounted t.next_version) P (later t.next_version) t.records h.counted in
    let one : P r = record { version = omega arith; modifications = omega arith } in
    record {
      rising = up;
      counted = All-append P _ _ (All-filter _ P t.records all) (All-cons P r _ one (All-filter _ P t.records all));
      light = light;
    }

pub kept-stored : (next other : ℕ) (was : RecordsState) (rs rs' : List Record) (held : ℕ) (r : Record) → record { records = rs; next_version = next; other = other } ≡ was → rs' ≡ with_record r rs → IsSound (record { records = rs; next_version = next; other = other })
    → r.meta.version ≡ was.next_version → r.meta.modifications ≤ was.next_version → IsRising (keyed rs') → held ≡ sum_by record_weight (with_record r was.records) → held + was.other ≤ weight_limit
    → IsKept (record { records = rs'; next_version = next + 1; other = other }) held
kept-stored next other was rs rs' held r is e h v m up w light =
    let t : RecordsState = record { records = rs; next_version = next; other = other } in
    let v' = subst (λ (q : RecordsState). r.meta.version ≡ q.next_version) (sym is) v in
    let m' = subst (λ (q : RecordsState). r.meta.modifications ≤ q.next_version) (sym is) m in
    let w' = subst (λ (q : RecordsState). held ≡ sum_by record_weight (with_record r q.records)) (sym is) w in
    let l' = subst (λ (q : RecordsState). held + q.other ≤ weight_limit) (sym is) light in
    let light' : sum_by record_weight (with_record r t.records) + t.other ≤ weight_limit = rw (← w') l' in
    rw e (record { sound = sound-stored t r h v' m' (rw e at up) light'; weight = w' })

-- ---- refusals

module _ (s : ShardState) (t : RecordsState) (of : IsOf s t) where
  same_shard : record s { records = t.records; next_version = t.next_version } ≡ s
  same_shard = rw (← of.records, ← of.next_version) refl

  -- a refusal changes nothing
  pub refused-is : (r : OpReply) → refused s r ≡ effect s t (refusal_of r)
  refused-is r = ap (λ (z : ShardState). record { state = z; reply = r; notice = None }) (sym same_shard)

-- ---- removals

-- the records stay sound where some are removed
pub kept-fewer : (next other : ℕ) (rs rs' : List Record) (held gone : ℕ) (p : Record → Bool) → IsKept (record { records = rs; next_version = next; other = other }) held
    → rs' ≡ filter p rs → IsRising (keyed rs') → sum_by record_weight (filter p rs) + gone ≡ sum_by record_weight rs → IsKept (record { records = rs'; next_version = next; other = other }) (held - gone)
kept-fewer next other rs rs' held gone p h e up w = rw e (fewer (rw e at up))
  where
    fewer : IsRising (keyed (filter p rs)) → IsKept (record { records = filter p rs; next_version = next; other = other }) (held - gone)
    fewer up =
        let light : sum_by record_weight rs + other ≤ weight_limit = h.sound.light in
        let all : held ≡ sum_by record_weight rs = h.weight in
        record {
          sound = record { rising = up; counted = All-filter p (IsCounted next) rs h.sound.counted; light = omega arith };
          weight = omega arith;
        }
