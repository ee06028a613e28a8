-- Where a term table ends, and that a lawful one ends at a count.
use Rattle.std.proofs.Common.{◌≡◌, ℕ, suc, ◌+◌, ◌-◌, ◌<◌, ◌≤◌, nat_le, ◌&&◌, true, List, [], ◌∷◌, length, get_or, refl, sym, ap, ◌∙◌, arith}
use Rattle.std.proofs.lemmas.Bool.{and_parts}
use Rattle.ox_types.specs.Limits.{count_limit, offset_limit}
use Rattle.ox_types.specs.declared.log.Head.{Head}
use Rattle.ox_types.specs.declared.log.TermRun.{TermRun}
use Rattle.ox_types.specs.declared.log.TermTable.{TermTable}
use Rattle.ox_types.specs.Log.{head_of_runs, table_head}
use Rattle.ox_bytes.specs.Fields.{number32}
use Rattle.ox_bytes.specs.Lists.{is_course}
use Rattle.ox_bytes.specs.LogForms.{term, count, entry_offset, head, run_from, runs_course, runs_behind, term_table}

-- last offsets rise from the least one on, up to the greatest offset
abbrev pub Lasts : ℕ → List TermRun → Type 0
Lasts least [] = Unit {0}
Lasts least (r ∷ runs) = (least ≤ r.last) × (r.last ≤ offset_limit) × Lasts (r.last + 1) runs

le_from_test : (a b : ℕ) → nat_le a b ≡ true → a ≤ b
le_from_test a b h = grind (arith, h)

lasts_of_course : (least : ℕ × ℕ) (runs : List TermRun) → is_course runs_course least runs ≡ true → Lasts least.1 runs
unfolding run_from
lasts_of_course least [] h = tt
lasts_of_course least (r ∷ runs) h =
    let both = and_parts ((run_from least).is_lawful r) (is_course runs_course (r.term + 1, r.last + 1) runs) h in
    let fields = and_parts (term.is_lawful r.term && nat_le least.0 r.term) (entry_offset.is_lawful r.last && nat_le least.1 r.last) both.0 in
    let last = and_parts (entry_offset.is_lawful r.last) (nat_le least.1 r.last) fields.1 in
    let small = and_parts _ (nat_le r.last offset_limit) last.0 in
    (le_from_test least.1 r.last last.1, le_from_test r.last offset_limit small.1, lasts_of_course (r.term + 1, r.last + 1) runs both.1)

pub lawful_lasts : (t : TermTable) → term_table.is_lawful t ≡ true → Lasts t.base.count t.runs
unfolding term_table
lawful_lasts t h =
    let both = and_parts (head.is_lawful t.base) ((runs_behind t.base).is_lawful t.runs) h in
    lasts_of_course (t.base.term, t.base.count) t.runs (and_parts (number32.is_lawful (length t.runs)) _ both.1).1

-- the head stands behind the last run
pub head_at : (base : Head) (runs : List TermRun) (d : TermRun) → 0 < length runs → (head_of_runs base runs).count ≡ (get_or runs (length runs - 1) d).last + 1
head_at base [] d some = absurd (omega arith)
head_at base (r ∷ []) d some = refl
head_at base (r ∷ s ∷ runs) d some =
    let e : length (r ∷ s ∷ runs) - 1 ≡ suc (length (s ∷ runs) - 1) = omega arith in
    rw e (head_at (record { term = r.term; count = r.last + 1 }) (s ∷ runs) d (omega arith))

head_small : (base : Head) (runs : List TermRun) (least : ℕ) → base.count ≤ count_limit → Lasts least runs → (head_of_runs base runs).count ≤ count_limit
head_small base [] least le h = le
head_small base (r ∷ runs) least le h = head_small (record { term = r.term; count = r.last + 1 }) runs (r.last + 1) (omega (arith, h.1)) h.2

pub lawful_small : (t : TermTable) → term_table.is_lawful t ≡ true → (table_head t).count ≤ count_limit
unfolding term_table head
lawful_small t h =
    let both = and_parts (head.is_lawful t.base) ((runs_behind t.base).is_lawful t.runs) h in
    let fields = and_parts (term.is_lawful t.base.term) (count.is_lawful t.base.count) both.0 in
    let small = and_parts _ (nat_le t.base.count count_limit) fields.1 in
    head_small t.base t.runs t.base.count (le_from_test t.base.count count_limit small.1) (lawful_lasts t h)

pub head_told : (t : TermTable) (runs : List TermRun) (last : TermRun) → runs ≡ t.runs → last ≡ get_or runs (length runs - 1) last → 1 ≤ length runs → (table_head t).count ≡ last.last + 1
head_told t runs last whole is some =
    sym (ap (λ (l : List TermRun). (head_of_runs t.base l).count) whole) ∙ head_at t.base runs last (omega arith) ∙ sym (ap (λ (r : TermRun). r.last + 1) is)
