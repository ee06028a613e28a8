use Rattle.std.proofs.Common.{◌≡◌, ◌+◌, List, sym, subst}
use Rattle.std.specs.Prelude.{IsTrue}
use Rattle.std.proofs.lemmas.Result.{on_ok_weaker, IfOk-weaker}
use Rattle.ox_ops.specs.declared.reply.OpReply.{OpReply}
use Rattle.ox_ops.specs.declared.reply.ShardReply.{ShardReply}
use Rattle.ox_ops.specs.Apply.{apply_entry}
use Rattle.ox_ops.specs.Forms.{shard_reply}
use Rattle.ox_meaning.specs.Fits.{FitsLog}
use Rattle.ox_meaning.specs.ApplyLaws.{entry_fits, entry_replies}
use Rattle.ox_shard.proofs.Machines.{read_faultless, count_fits}
use Rattle.ox_shard.proofs.replicated.ShardMachineMachine.apply.Goals as goal

pub apply-requires-clause-fits : goal.apply-requires-clause-fits
apply-requires-clause-fits c = count_fits c.args.id.offset c.args.self.now c.requires.fits

pub apply-requires-clause-faultless : goal.apply-requires-clause-faultless
apply-requires-clause-faultless c = read_faultless c.args.command.now c.requires.lawful c.requires.read

pub returns-clause-fits : goal.returns-clause-fits
returns-clause-fits c =
    let fits = entry_fits c.args.self.now c.args.id.offset c.args.time c.args.command.now c.requires.offset c.requires.time c.requires.fits c.requires.lawful c.requires.read in
    on_ok_weaker c.apply.result (λ is. subst (FitsLog (c.args.id.offset + 1)) (sym is) fits) c.apply.ensures.state

pub returns-clause-lawful : goal.returns-clause-lawful
returns-clause-lawful c =
    let lawful = entry_replies c.args.self.now c.args.id.offset c.args.time c.args.command.now c.requires.offset c.requires.time c.requires.fits c.requires.lawful c.requires.read in
    IfOk-weaker c.apply.result (λ (r : ShardReply). r.ops ≡ (apply_entry c.args.self.now c.args.id.offset c.args.time c.args.command.now).replies) (λ (r : ShardReply). IsTrue (shard_reply.is_lawful r))
    (λ r is. subst (λ (ops : List OpReply). IsTrue (shard_reply.is_lawful (record { ops = ops }))) (sym is) lawful) c.apply.ensures.replies
