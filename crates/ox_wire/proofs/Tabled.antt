-- A term table is lawful where its runs keep the rules that join them.
use Rattle.std.proofs.Common.{◌≡◌, ℕ, zero, suc, ◌+◌, ◌<◌, ◌≤◌, ◌^◌, true, All, List, [], ◌∷◌, length, get_or, map, refl, arith}
use Rattle.std.specs.Prelude.{◌&&◌, nat_le, nat_lt, IsTrue}
use Rattle.std.proofs.lemmas.Bool.{and_parts, and_from, leb-true, le-leb, ltb-true, lt-ltb}
use Rattle.ox_types.specs.declared.log.TermRun.{TermRun}
use Rattle.ox_types.specs.declared.log.TermTable.{TermTable}
use Rattle.ox_types.specs.Limits.{term_limit, count_limit, offset_limit}
use Rattle.ox_bytes.specs.Lists.{is_course}
use Rattle.ox_bytes.specs.LogForms.{term, count, entry_offset, head, run_from, runs_course, runs_behind, term_table}
use Rattle.ox_wire.specs.Rules.{IsRunBehind, IsTable}
use Rattle.ox_wire.proofs.Ruled.{bounded, within}
use Rattle.ox_wire.proofs.Rising.{RisesFrom, rising, rises_of}

abbrev terms_of : List TermRun → List ℕ
terms_of runs = map (λ r. r.term) runs

abbrev lasts_of : List TermRun → List ℕ
lasts_of runs = map (λ r. r.last) runs

-- a run within its bounds, and not below this term and this offset
abbrev IsRunFrom : ℕ → ℕ → TermRun → Type 0
IsRunFrom least least_last r = (r.term ≤ term_limit) × (r.last ≤ offset_limit) × (least ≤ r.term) × (least_last ≤ r.last)

abbrev AreRuns : ℕ → ℕ → List TermRun → Type 0
AreRuns least least_last [] = Unit {0}
AreRuns least least_last (r ∷ runs) = IsRunFrom least least_last r × AreRuns least least_last runs

-- what is not below more is not below less
lower : (least least_last more_least more_count : ℕ) (runs : List TermRun) → least ≤ more_least → least_last ≤ more_count → AreRuns more_least more_count runs → AreRuns least least_last runs
lower least least_last more_least more_count [] t c h = tt
lower least least_last more_least more_count (r ∷ runs) t c h = ((h.0.0, h.0.1, omega (arith, h.0.2), omega (arith, h.0.3)), lower least least_last more_least more_count runs t c h.1)

runs_are : (least least_last : ℕ) (runs : List TermRun) → is_course runs_course (least, least_last) runs ≡ true → AreRuns least least_last runs × RisesFrom least (terms_of runs) × RisesFrom least_last (lasts_of runs)
unfolding run_from
runs_are least least_last [] h = (tt, tt, tt)
runs_are least least_last (r ∷ runs) h =
    let both = and_parts ((run_from (least, least_last)).is_lawful r) (is_course runs_course (r.term + 1, r.last + 1) runs) h in
    let fields = and_parts (term.is_lawful r.term && nat_le least r.term) (entry_offset.is_lawful r.last && nat_le least_last r.last) both.0 in
    let terms = and_parts (term.is_lawful r.term) (nat_le least r.term) fields.0 in
    let lasts = and_parts (entry_offset.is_lawful r.last) (nat_le least_last r.last) fields.1 in
    let above : least ≤ r.term = leb-true least r.term terms.1 in
    let behind : least_last ≤ r.last = leb-true least_last r.last lasts.1 in
    let others = runs_are (r.term + 1) (r.last + 1) runs both.1 in (
      ((bounded term_limit r.term terms.0, bounded offset_limit r.last lasts.0, above, behind), lower least least_last (r.term + 1) (r.last + 1) runs (omega arith) (omega arith) others.0),
      (above, others.1),
      (behind, others.2),
    )

runs_from : (base_term base_count least least_last : ℕ) (runs : List TermRun) → AreRuns base_term base_count runs → RisesFrom least (terms_of runs) → RisesFrom least_last (lasts_of runs) → is_course runs_course (least, least_last) runs ≡ true
unfolding run_from
runs_from base_term base_count least least_last [] are terms lasts = refl
runs_from base_term base_count least least_last (r ∷ runs) are terms lasts =
    and_from _ _ (and_from _ _ (and_from _ _ (within term_limit r.term refl are.0.0) (le-leb least r.term terms.0)) (and_from _ _ (within offset_limit r.last refl are.0.1) (le-leb least_last r.last lasts.0)))
    (runs_from base_term base_count (r.term + 1) (r.last + 1) runs are.1 terms.1 lasts.1)

each_is : (table : TermTable) (runs : List TermRun) → AreRuns table.base.term table.base.count runs → All (IsRunBehind table) runs
each_is table [] h k d lt = absurd (omega arith)
each_is table (r ∷ runs) h zero d lt = record { small_term = h.0.0; small_last = omega (arith, h.0.1); from_term = h.0.2; from_count = h.0.3 }
each_is table (r ∷ runs) h (suc k) d lt = each_is table runs h.1 k d (omega arith)

each_from : (table : TermTable) (runs : List TermRun) → All (IsRunBehind table) runs → AreRuns table.base.term table.base.count runs
each_from table [] h = tt
each_from table (r ∷ runs) h =
    let here = h 0 r (omega arith) in
    ((here.small_term, omega (arith, here.small_last), here.from_term, here.from_count), each_from table runs (λ k d lt. h (suc k) d (omega arith)))

pub table_is : (table : TermTable) → IsTrue (term_table.is_lawful table) → IsTable table
unfolding term_table head
table_is table h =
    let both = and_parts (head.is_lawful table.base) ((runs_behind table.base).is_lawful table.runs) h in
    let base = and_parts (term.is_lawful table.base.term) (count.is_lawful table.base.count) both.0 in
    let items = and_parts (nat_lt (length table.runs) (2 ^ 32)) (is_course runs_course (table.base.term, table.base.count) table.runs) both.1 in
    let are = runs_are table.base.term table.base.count table.runs items.1 in
    record {
      small_term = bounded term_limit table.base.term base.0;
      small_count = bounded count_limit table.base.count base.1;
      countable = ltb-true (length table.runs) 4294967296 items.0;
      each = each_is table table.runs are.0;
      terms = rising table.base.term (terms_of table.runs) are.1;
      lasts = rising table.base.count (lasts_of table.runs) are.2;
    }

-- the first is one of all
first_term : (least least_last : ℕ) (runs : List TermRun) → AreRuns least least_last runs → (0 < length (terms_of runs)) → least ≤ get_or (terms_of runs) 0 0
first_term least least_last [] h some = absurd (omega arith)
first_term least least_last (r ∷ runs) h some = h.0.2

first_last : (least least_last : ℕ) (runs : List TermRun) → AreRuns least least_last runs → (0 < length (lasts_of runs)) → least_last ≤ get_or (lasts_of runs) 0 0
first_last least least_last [] h some = absurd (omega arith)
first_last least least_last (r ∷ runs) h some = h.0.3

pub table_from : (table : TermTable) → IsTable table → IsTrue (term_table.is_lawful table)
unfolding term_table head
table_from table t =
    let b = table.base in
    let are = each_from table table.runs t.each in
    let terms = rises_of b.term (terms_of table.runs) (first_term b.term b.count table.runs are) t.terms in
    let lasts = rises_of b.count (lasts_of table.runs) (first_last b.term b.count table.runs are) t.lasts in
    and_from _ _ (and_from _ _ (within term_limit b.term refl t.small_term) (within count_limit b.count refl t.small_count))
    (and_from _ _ (lt-ltb (length table.runs) 4294967296 t.countable) (runs_from b.term b.count b.term b.count table.runs are terms lasts))
