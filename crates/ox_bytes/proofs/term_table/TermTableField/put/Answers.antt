use Rattle.std.proofs.Common.{◌≡◌, ℕ, List, refl, sym, append_assoc}
use Rattle.std.specs.List.{flat_map}
use Rattle.ox_types.specs.declared.log.TermRun.{TermRun}
use Rattle.ox_bytes.specs.Lists.{course_text}
use Rattle.ox_bytes.specs.ListLaws.{course_text-same}
use Rattle.ox_bytes.specs.LogForms.{run_from, run_text, runs_course, term_table}
use Rattle.ox_bytes.proofs.term_table.TermTableField.put.Goals as goal

runs_text : (least : ℕ × ℕ) (runs : List TermRun) → flat_map run_text runs ≡ course_text runs_course least runs
unfolding run_from
runs_text least runs = sym (course_text-same runs_course run_text (λ s x. refl) least runs)

pub returns : goal.returns
unfolding term_table
returns c =
    rw (c.in_ok-put_runs.ensures, c.in_ok-put.ensures, runs_text (c.args.self.now.base.term, c.args.self.now.base.count) c.args.self.now.runs) (simp append_assoc)
