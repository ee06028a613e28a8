-- Which of the oldest batches go, one after the other.
use Rattle.std.specs.Prelude.{ℕ, ◌+◌, Bool, false, not, ◌&&◌, nat_le, List, [], ◌∷◌, sum_by, if◌then◌else◌}
use Rattle.ox_ops.specs.declared.notice.NoticeBatch.{NoticeBatch}
use Rattle.ox_ops.specs.Weight.{batch_weight}
use Rattle.ox_ops.specs.Apply.{kept_time, kept_weight}
use Rattle.ox_notice.specs.Kept.{Kept}

-- the first batch stays where it is young enough, and all of them are light enough
abbrev pub stays : ℕ → NoticeBatch → List NoticeBatch → Bool
stays time b batches = nat_le time (b.time + kept_time) && nat_le (sum_by batch_weight (b ∷ batches)) kept_weight

-- does the first batch go?
abbrev pub first_goes : ℕ → List NoticeBatch → Bool
first_goes time [] = false
first_goes time (b ∷ batches) = not (stays time b batches)

-- without the first batch, whose offset is the low mark then
abbrev pub without_first : Kept → Kept
without_first k = on k.batches
  where
    on : List NoticeBatch → Kept
    on [] = k
    on (b ∷ batches) = record { low = b.offset; batches = batches }

-- the low mark and the batches when those that go are gone
abbrev pub trim : ℕ → ℕ → List NoticeBatch → Kept
trim time low [] = record { low = low; batches = [] }
trim time low (b ∷ batches) = if stays time b batches then record { low = low; batches = b ∷ batches } else trim time b.offset batches
