-- The notices that a shard keeps.
use Rattle.std.specs.Prelude.{◌≡◌, ◌≤◌, ◌+◌, ℕ, List, [], ◌∷◌, sum_by}
use Rattle.ox_ops.specs.declared.notice.Notice.{Notice}
use Rattle.ox_ops.specs.declared.notice.NoticeItem.{NoticeItem}
use Rattle.ox_ops.specs.declared.notice.NoticeBatch.{NoticeBatch}
use Rattle.ox_ops.specs.State.{ShardState}
use Rattle.ox_ops.specs.Weight.{batch_weight}
use Rattle.ox_ops.specs.Apply.{kept_weight}

pub record Kept : Type 0 where
  -- the offset of the last batch that was dropped
  pub low : ℕ
  -- by rising offset
  pub batches : List NoticeBatch

-- what a shard keeps
abbrev pub kept_of : ShardState → Kept
kept_of s = record { low = s.low; batches = s.batches }

-- offsets rise and times never fall, from these on
abbrev pub IsOrdered : ℕ → ℕ → List NoticeBatch → Type 0
IsOrdered offset time [] = Unit {0}
IsOrdered offset time (b ∷ batches) = (offset ≤ b.offset) × (time ≤ b.time) × IsOrdered (b.offset + 1) b.time batches

-- the batches are light enough, and stand in order
pub record IsHeld (batches : List NoticeBatch) : Type 0 where
  pub light : sum_by batch_weight batches ≤ kept_weight
  pub ordered : IsOrdered 0 0 batches

-- the weight of the batches is counted; one batch too much may be among them
pub record IsCounted (batches : List NoticeBatch) (weight : ℕ) : Type 0 where
  pub weight_is : weight ≡ sum_by batch_weight batches
  pub light : sum_by batch_weight batches ≤ kept_weight + kept_weight

-- a notice of the entry at an offset
abbrev pub item_at : ℕ → Notice → NoticeItem
item_at offset n = record { offset = offset; notice = n }
