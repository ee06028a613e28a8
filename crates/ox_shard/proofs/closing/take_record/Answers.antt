use Rattle.std.proofs.Common.{◌∙◌, ap, sym, subst, refl, List, Some, None}
use Rattle.std.specs.Prelude.{◌&&◌, not}
use Rattle.ox_ops.specs.declared.write.IndexEntry.{IndexEntry}
use Rattle.ox_puts.specs.Records.{RecordsState}
use Rattle.ox_index.specs.Pairs.{has_added}
use Rattle.ox_shard.specs.Lists.{entries_at, HasEntriesOf}
use Rattle.ox_shard.proofs.Ties.{entries-without, all-of_one}
use Rattle.ox_shard.proofs.closing.take_record.Goals as goal

pub returns-in-Some-clause-entries : goal.returns-in-Some-clause-entries
returns-in-Some-clause-entries c has =
    subst (λ (t : RecordsState). HasEntriesOf c.drop_entries.new.index t.records) (sym c.in-Some.ensures.after)
    (entries-without c.args.records.now.records c.args.key.now (Some c.in-Some.gone) c.args.index.now c.drop_entries.new.index c.in-Some.ensures.was_sound.rising c.in-Some.ensures.taken
    (λ q. c.drop_entries.ensures q ∙ ap (λ (es : List IndexEntry). not (has_added q (entries_at c.in-Some.gone.key es)) && has_added q c.args.index.now) c.as_slice.ensures ∙ ap (λ b. not b && has_added q c.args.index.now) (all-of_one q c.in-Some.gone))
    has)

pub returns-in_default-clause-entries : goal.returns-in_default-clause-entries
returns-in_default-clause-entries c has =
    subst (λ (t : RecordsState). HasEntriesOf c.args.index.now t.records) (sym c.take.ensures.after)
    (entries-without c.args.records.now.records c.args.key.now None c.args.index.now c.args.index.now c.take.ensures.was_sound.rising (sym c.in_default.is ∙ c.take.ensures.taken) (λ q. refl) has)
