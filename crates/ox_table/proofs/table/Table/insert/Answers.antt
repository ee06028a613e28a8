use Rattle.std.proofs.Common.{◌∙◌, sym, Result, Ok, Err, OnErr}
use Rattle.ox_table.specs.TableLaws.{IsRising-inserted}
use Rattle.ox_table.proofs.Places.{set-place, insert-gap, table_get-place, table_get-gap}
use Rattle.ox_table.proofs.table.Table.insert.Goals as goal

-- ---- the key was there, and its pair has the new value

pub invariant_of-self : goal.invariant_of-self
invariant_of-self g c =
    let place = rw c.deref.ensures.value at c.in-Ok.ensures in
    rw (c.replace.ensures.after, set-place _ _ _ _ c.args.value place c.index_mut.ensures.value) (IsRising-inserted _ _ _ c.self.invariant)

pub returns-in-Ok-clause-value : goal.returns-in-Ok-clause-value
returns-in-Ok-clause-value g c =
    let place = rw c.deref.ensures.value at c.in-Ok.ensures in
    rw (← c.self.view_is, c.replace.ensures.value) (table_get-place _ _ _ _ place c.index_mut.ensures.value)

pub returns-in-Ok-clause-ok : goal.returns-in-Ok-clause-ok
returns-in-Ok-clause-ok g c =
    let place = rw c.deref.ensures.value at c.in-Ok.ensures in
    rw (← c.self.view_is, c.replace.ensures.after) (set-place _ _ _ _ c.args.value place c.index_mut.ensures.value)

pub returns-in-Ok-clause-rising : goal.returns-in-Ok-clause-rising
returns-in-Ok-clause-rising g c =
    let place = rw c.deref.ensures.value at c.in-Ok.ensures in
    rw (c.replace.ensures.after, set-place _ _ _ _ c.args.value place c.index_mut.ensures.value) (IsRising-inserted _ _ _ c.self.invariant)

-- ---- the key was not there, and its pair is new

pub invariant_of-self-in-Err : goal.invariant_of-self-in-Err
invariant_of-self-in-Err g c =
    let gap = rw c.deref.ensures.value at c.in-Err.ensures in
    rw (c.in_ok-insert-in-Err.ensures.items, insert-gap _ _ _ c.args.value gap) (IsRising-inserted _ _ _ c.self.invariant)

pub returns-in_ok-insert-in-Err-clause-value : goal.returns-in_ok-insert-in-Err-clause-value
returns-in_ok-insert-in-Err-clause-value g c =
    let gap = rw c.deref.ensures.value at c.in-Err.ensures in
    rw (← c.self.view_is) (table_get-gap _ _ _ gap)

pub returns-in_ok-insert-in-Err-clause-ok : goal.returns-in_ok-insert-in-Err-clause-ok
returns-in_ok-insert-in-Err-clause-ok g c =
    let gap = rw c.deref.ensures.value at c.in-Err.ensures in
    rw (← c.self.view_is) (c.in_ok-insert-in-Err.ensures.items ∙ insert-gap _ _ _ c.args.value gap)

pub returns-in_ok-insert-in-Err-clause-rising : goal.returns-in_ok-insert-in-Err-clause-rising
returns-in_ok-insert-in-Err-clause-rising g c =
    let gap = rw c.deref.ensures.value at c.in-Err.ensures in
    rw (c.in_ok-insert-in-Err.ensures.items, insert-gap _ _ _ c.args.value gap) (IsRising-inserted _ _ _ c.self.invariant)

-- ---- memory ran out

on_err : {T E : Type 0} (r : Result T E) (P : Type 0) → P → OnErr r P
on_err (Ok x) P p = tt
on_err (Err e) P p = p

pub returns-in_err-insert-in-Err-clause-absent : goal.returns-in_err-insert-in-Err-clause-absent
returns-in_err-insert-in-Err-clause-absent g c =
    let gap = rw c.deref.ensures.value at c.in-Err.ensures in
    on_err c.from_residual.result _ (rw (← c.self.view_is) (sym (table_get-gap _ _ _ gap)))
