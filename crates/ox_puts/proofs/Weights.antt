-- What an edit does to the weight of the records.
use Rattle.std.proofs.Common.{◌≡◌, ◌≤◌, ◌∙◌, ◌+◌, ℕ, List, [], ◌∷◌, Option, Some, None, filter, sum_by, option_to_list, refl, sym, ap, arith}
use Rattle.std.specs.Prelude.{not}
use Rattle.std.specs.Option.{option_map}
use Rattle.std.proofs.lemmas.List.Sums.{sum_by-cons}
use Rattle.std.proofs.lemmas.List.Filters.{sum_by-filter_both}
use Rattle.ox_order.specs.Range.{in_range}
use Rattle.ox_order.specs.declared.range.KeyRange.{KeyRange}
use Rattle.ox_table.specs.Table.{Pairs, IsRising, having, inserted, removed, table_get}
use Rattle.ox_table.specs.TableLaws.{sum_by-inserted, sum_by-removed, having-pairs}
use Rattle.ox_ops.specs.declared.answer.Record.{Record}
use Rattle.ox_ops.specs.State.{record_of, with_record, without_key}
use Rattle.ox_ops.specs.Weight.{record_weight}
use Rattle.ox_puts.specs.Records.{keyed, old_weight}
use Rattle.ox_puts.proofs.Keyed.{get-keyed, inserted-keyed, removed-keyed}

abbrev pair_weight : List ℕ × Record → ℕ
pair_weight p = record_weight p.1

sum-keyed : (rs : List Record) → sum_by pair_weight (keyed rs) ≡ sum_by record_weight rs
sum-keyed [] = refl
sum-keyed (r ∷ rs) = sum_by-cons pair_weight (r.key, r) (keyed rs) ∙ ap (λ n. record_weight r + n) (sum-keyed rs) ∙ sym (sum_by-cons record_weight r rs)

one : (key : List ℕ) (o : Option Record) → sum_by pair_weight (option_to_list (option_map (λ v. (key, v)) o)) ≡ old_weight o
one key None = refl
one key (Some r) = refl

having_weight : (rs : List Record) (key : List ℕ) → IsRising (keyed rs) → sum_by pair_weight (having key (keyed rs)) ≡ old_weight (record_of key rs)
having_weight rs key h =
    ap (sum_by pair_weight) (having-pairs (keyed rs) key h)
    ∙ ap (λ o. sum_by pair_weight (option_to_list (option_map (λ (v : Record). (key, v)) o))) (get-keyed (keyed rs) rs key refl)
    ∙ one key (record_of key rs)

-- a record in its place, in the place of the one of its key
pub weight-with : (rs : List Record) (r : Record) → IsRising (keyed rs) → sum_by record_weight (with_record r rs) + old_weight (record_of r.key rs) ≡ sum_by record_weight rs + record_weight r
weight-with rs r h =
    let law = sum_by-inserted pair_weight (keyed rs) r.key r h in
    let new = ap (sum_by pair_weight) (inserted-keyed (keyed rs) rs refl r r.key refl) ∙ sum-keyed (with_record r rs) in
    let old = having_weight rs r.key h in
    let all = sum-keyed rs in
    omega arith

-- the records without the one of the key
pub weight-without : (rs : List Record) (key : List ℕ) → IsRising (keyed rs) → sum_by record_weight (without_key key rs) + old_weight (record_of key rs) ≡ sum_by record_weight rs
weight-without rs key h =
    let law = sum_by-removed pair_weight (keyed rs) key h in
    let new = ap (sum_by pair_weight) (removed-keyed (keyed rs) rs key refl) ∙ sum-keyed (without_key key rs) in
    let old = having_weight rs key h in
    let all = sum-keyed rs in
    omega arith

-- the record of a key weighs no more than all
pub weight-of_one : (rs : List Record) (key : List ℕ) → IsRising (keyed rs) → old_weight (record_of key rs) ≤ sum_by record_weight rs
weight-of_one rs key h = let law = weight-without rs key h in omega arith

-- the records in a range, and the others
pub weight-range : (range : KeyRange) (rs : List Record) → sum_by record_weight (filter (λ (r : Record). not (in_range range r.key)) rs) + sum_by record_weight (filter (λ (r : Record). in_range range r.key) rs) ≡ sum_by record_weight rs
weight-range range rs =
    let both = sum_by-filter_both (λ (r : Record). in_range range r.key) (λ (r : Record). not (in_range range r.key)) (λ r. refl) record_weight rs in
    omega arith

-- the weight that is counted is that of the records
pub weight_after : (rs : List Record) (r : Record) (key : List ℕ) (old : Option Record) (held result : ℕ) → IsRising (keyed rs) → r.key ≡ key → old ≡ record_of key rs → held ≡ sum_by record_weight rs → result + old_weight old ≡ held + record_weight r → result ≡ sum_by record_weight (with_record r rs)
weight_after rs r key old held result h same found all sum =
    let law = weight-with rs r h in
    let gone : old_weight old ≡ old_weight (record_of r.key rs) = ap old_weight (found ∙ ap (λ k. record_of k rs) (sym same)) in
    omega arith
