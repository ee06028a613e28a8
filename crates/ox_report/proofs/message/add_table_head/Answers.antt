use Rattle.std.proofs.Common.{◌≡◌, ◌∙◌, suc, ◌+◌, ◌-◌, ◌<◌, List, [], ◌∷◌, length, get_or, refl, ap, sym, arith}
use Rattle.ox_types.specs.declared.log.Head.{Head}
use Rattle.ox_types.specs.declared.log.TermRun.{TermRun}
use Rattle.ox_types.specs.Log.{head_of_runs, table_head}
use Rattle.ox_report.proofs.message.add_table_head.Goals as goal

-- the head behind a run
abbrev behind : TermRun → Head
behind r = record { term = r.term; count = r.last + 1 }

-- the head behind runs is that behind the last one
last_head : (head : Head) (runs : List TermRun) (d : TermRun) → 0 < length runs → head_of_runs head runs ≡ behind (get_or runs (length runs - 1) d)
last_head head [] d some = absurd (omega arith)
last_head head (r ∷ []) d some = refl
last_head head (r ∷ s ∷ runs) d some =
    let e : length (r ∷ s ∷ runs) - 1 ≡ suc (length (s ∷ runs) - 1) = omega arith in
    rw e (last_head (behind r) (s ∷ runs) d (omega arith))

pub returns-in-len1-up : goal.returns-in-len1-up
returns-in-len1-up c =
    let last = last_head c.args.table.now.base c.as_slice.result.now c.run-item.result (omega (arith, c.in-len1-up.len_at_least)) in
    let whole : table_head c.args.table.now ≡ behind c.run-item.result =
    ap (λ runs. head_of_runs c.args.table.now.base runs) (sym c.as_slice.ensures) ∙ last ∙ sym (ap behind c.run-item.is) in
    rw whole c.add_end.ensures
