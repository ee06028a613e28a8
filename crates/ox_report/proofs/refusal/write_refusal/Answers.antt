use Rattle.ox_report.proofs.refusal.write_refusal.Goals as goal

pub returns-in-UnknownTerm : goal.returns-in-UnknownTerm
returns-in-UnknownTerm c = rw c.in-UnknownTerm.is c.add_terms-in-UnknownTerm.ensures

pub returns-in-TooManyPending : goal.returns-in-TooManyPending
returns-in-TooManyPending c = rw c.in-TooManyPending.is c.add_count.ensures

pub returns-in-NoSuchShard : goal.returns-in-NoSuchShard
returns-in-NoSuchShard c = rw c.in-NoSuchShard.is c.add_shards.ensures
