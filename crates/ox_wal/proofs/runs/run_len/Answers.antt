use Rattle.std.proofs.Common.{rules, leb}
use Rattle.std.proofs.lemmas.Fn.{always_returns_same}
use Rattle.std.proofs.lemmas.List.Sorted.{IsPartitionedBy-leb}
use Rattle.ox_types.specs.declared.log.Entry.{Entry}
use Rattle.ox_wal.proofs.TermRuns.{terms_rise, run_is}
use Rattle.ox_wal.proofs.runs.run_len.Goals as goal

pub returns : goal.returns
returns c =
    let es = c.args.entries.now in
    let f = c.requires.follow in
    let t = c.number_of-term.result in
    let point = c.partition_point.ensures.partitioned (λ (e : Entry). leb e.term t) (always_returns_same _ _ _ (λ a r q called. search rules))
    (IsPartitionedBy-leb (λ (e : Entry). e.term) es t (terms_rise f.top f.term f.count es f.is)) in
    let is = run_is es c.partition_point.result t c.index-entries-0.result c.requires.some f c.number_of-term.ensures c.partition_point.ensures.bound point in
    record { within = (is.0, c.partition_point.ensures.bound); runs = is.1 }
