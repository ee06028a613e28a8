-- What holds of each batch of notices holds of those that are kept.
use Rattle.std.proofs.Common.{◌≡◌, refl, ℕ, zero, suc, ◌+◌, Bool, true, false, leb, List, [], ◌∷◌, sum_by, All, arith}
use Rattle.std.proofs.lemmas.List.Elements.{All-filter, All-append}
use Rattle.ox_ops.specs.declared.notice.Notice.{Notice}
use Rattle.ox_ops.specs.declared.notice.NoticeBatch.{NoticeBatch}
use Rattle.ox_ops.specs.State.{ShardState}
use Rattle.ox_ops.specs.Weight.{batch_weight}
use Rattle.ox_ops.specs.Apply.{kept_time, kept_weight, light, with_batch, retained}

module _ (P : NoticeBatch → Type 0) where
  All-light : (batches : List NoticeBatch) → All P batches → All P (light batches)
  All-light [] h = h
  All-light (b ∷ batches) h = by_test (leb (sum_by batch_weight (b ∷ batches)) kept_weight) refl (All-light batches (λ k d l. h (suc k) d (omega arith)))
    where
      by_test : (t : Bool) → leb (sum_by batch_weight (b ∷ batches)) kept_weight ≡ t → All P (light batches) → All P (light (b ∷ batches))
      by_test true e rest = rw e h
      by_test false e rest = rw e rest

  All-one : (b : NoticeBatch) → P b → All P (b ∷ [])
  All-one b p zero d l = p
  All-one b p (suc k) d l = absurd (omega arith)

  All-with : (offset time : ℕ) (notices : List Notice) (batches : List NoticeBatch) → P (record { offset = offset; time = time; notices = notices }) → All P batches → All P (with_batch offset time notices batches)
  All-with offset time [] batches p h = h
  All-with offset time (n ∷ notices) batches p h = All-append P batches _ h (All-one _ p)

  -- of the batches that a shard keeps with those of an entry
  pub All-kept : (s : ShardState) (offset time : ℕ) (notices : List Notice) (batches : List NoticeBatch) → P (record { offset = offset; time = time; notices = notices }) → All P batches
      → All P (retained s (with_batch offset time notices batches)).batches
  All-kept s offset time notices batches p h = All-light _ (All-filter (λ (b : NoticeBatch). leb s.time (b.time + kept_time)) P _ (All-with offset time notices batches p h))
