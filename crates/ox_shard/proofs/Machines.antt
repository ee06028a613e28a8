-- What a machine's reader says of a command, for the parts of a shard.
use Rattle.std.proofs.Common.{◌≡◌, ◌<◌, ℕ, false, ◌⊎◌, inl, inr}
use Rattle.std.specs.Prelude.{None, IsTrue}
use Rattle.std.proofs.lemmas.List.Elements.{All-weaker}
use Rattle.ox_ops.specs.declared.notice.NoticeBatch.{NoticeBatch}
use Rattle.ox_ops.specs.declared.write.ShardCommand.{ShardCommand}
use Rattle.ox_ops.specs.declared.write.ShardCommand.TheVariants.{Expire}
use Rattle.ox_ops.specs.State.{ShardState}
use Rattle.ox_ops.specs.Check.{command_fault}
use Rattle.ox_ops.specs.Forms.{command}
use Rattle.ox_machine.specs.Meaning.{reads, IsExpiry}
use Rattle.ox_meaning.specs.Fits.{IsLeft, FitsLog}
use Rattle.ox_meaning.specs.ReadLaws.{read_parts}
use Rattle.ox_meaning.specs.Shard.{shard_meaning}
use Rattle.ox_shard.specs.Fits.{FitsCount, is_expire}

-- a command that is read and isn't an expiry has no fault
pub read_faultless : (c : ShardCommand) → IsTrue (command.is_lawful c) → IsTrue (reads shard_meaning c) → is_expire c ≡ false → command_fault c ≡ None
read_faultless c lawful read other = by_parts (read_parts c lawful read)
  where
    by_parts : (command_fault c ≡ None) ⊎ IsExpiry shard_meaning c → command_fault c ≡ None
    by_parts (inl none) = none
    by_parts (inr (id, small, is)) = absurd (let e : is_expire (Expire id) ≡ false = rw is at other in cc)

-- a state that fits a log fits its length
pub count_fits : (count : ℕ) (s : ShardState) → FitsLog count s → FitsCount count s
count_fits count s fits = record {
  versions = fits.versions;
  offsets = All-weaker (IsLeft count) (λ (b : NoticeBatch). b.offset < count) (λ b left. left.below) s.batches fits.left;
  sessions = fits.opened;
}
