use Rattle.std.proofs.Common.{◌≡◌, ◌∙◌, ◌++◌, ◌∷◌, [], ℕ, List, ap, sym}
use Rattle.ox_memory.specs.Log.{put}
use Rattle.ox_memory.specs.declared.log.Call.TheVariants.{Write}
use Rattle.ox_memory.proofs.Moments.{written, not_written, seen_more, safe_more, writes_more, fits_more}
use Rattle.ox_memory.proofs.disk.MemoryDiskDisk.write_at.Goals as goal

pub returns-in-Err-clause-writes : goal.returns-in-Err-clause-writes
returns-in-Err-clause-writes c = not_written _ _ _ _ _ _ _ c.in-Err.ensures.log_err c.fails-asked.ensures.counted

pub returns-in-Ok-add_write-clause-writes : goal.returns-in-Ok-add_write-clause-writes
returns-in-Ok-add_write-clause-writes c =
    let log = c.args.self.now.log.items in
    let is : c.add_write.new.log.items ≡ log ++ Write c.args.at c.args.bytes.now ∷ [] = c.in-Ok-add_write.ensures.log ∙ ap (λ (b : List ℕ). log ++ Write c.args.at b ∷ []) c.in-Ok.ensures in
    written log c.add_write.new.log.items c.args.at c.args.bytes.now is c.requires _ _ c.answer.result c.fails-asked.ensures.counted

pub invariant_of-self-in-Ok-add_write-clause-seen : goal.invariant_of-self-in-Ok-add_write-clause-seen
invariant_of-self-in-Ok-add_write-clause-seen c =
    c.in-Ok-add_write.ensures.file ∙ ap (λ (f : List ℕ). put f c.args.at c.in-Ok.bytes) c.args.self.now.seen
    ∙ sym (seen_more c.args.self.now.log.items _ c.args.at c.in-Ok.bytes c.in-Ok-add_write.ensures.log c.requires)

pub invariant_of-self-in-Ok-add_write-clause-safe_is : goal.invariant_of-self-in-Ok-add_write-clause-safe_is
invariant_of-self-in-Ok-add_write-clause-safe_is c =
    c.in-Ok-add_write.ensures.safe ∙ c.args.self.now.safe_is
    ∙ sym (safe_more c.args.self.now.log.items _ c.args.at c.in-Ok.bytes c.in-Ok-add_write.ensures.log c.requires)

pub invariant_of-self-in-Ok-add_write-clause-writes : goal.invariant_of-self-in-Ok-add_write-clause-writes
invariant_of-self-in-Ok-add_write-clause-writes c =
    writes_more c.args.self.now.log.items _ c.args.at c.in-Ok.bytes c.in-Ok-add_write.ensures.log c.requires c.args.self.now.synced c.args.self.now.within c.args.self.now.writes

pub invariant_of-self-in-Ok-add_write-clause-fits : goal.invariant_of-self-in-Ok-add_write-clause-fits
invariant_of-self-in-Ok-add_write-clause-fits c =
    fits_more c.args.self.now.log.items _ c.args.at c.in-Ok.bytes c.in-Ok-add_write.ensures.log c.requires c.args.self.now.fits
