-- What a pair holds, and one record more.
use Rattle.std.proofs.Common.{◌≡◌, inl, inr, ⊎_elim, ℕ, zero, suc, ◌+◌, ◌<◌, ◌^◌, List, [], ◌∷◌, ◌++◌, length, All, refl, sym, ◌∙◌, ap, subst, arith, append_assoc, length-append}
use Rattle.std.proofs.lemmas.List.{append-nil}
use Rattle.std.proofs.lemmas.List.Elements.{All-append}
use Rattle.ox_outside.specs.Disk.{Shown, MayLeave, IsSynced, LeavesOnly}
use Rattle.ox_journal.specs.Half.{mark, be32, record_text, records_text, front, Shut}
use Rattle.ox_journal.specs.Append.{Starts, WithOrWithout}
use Rattle.ox_journal.specs.Appended.{HalfWithOrWithout, BeforeOrAfter}
use Rattle.ox_journal.specs.Pair.{IsHalf, Older, IsAside, IsOpen, LeavesPairs}
use Rattle.ox_journal.proofs.Heads.{shut_dead}

pub length-be32 : (n : ℕ) → length (be32 n) ≡ 4
length-be32 n = refl

records-push : (payloads : List (List ℕ)) (payload : List ℕ) → records_text (payloads ++ payload ∷ []) ≡ records_text payloads ++ 1 ∷ record_text payload
records-push [] payload = append-nil (1 ∷ record_text payload)
records-push (p ∷ payloads) payload =
    ap (λ (l : List ℕ). 1 ∷ record_text p ++ l) (records-push payloads payload) ∙ sym (append_assoc (1 ∷ record_text p) (records_text payloads) (1 ∷ record_text payload))

pub front-push : (round : ℕ) (payloads : List (List ℕ)) (payload : List ℕ) → front round (payloads ++ payload ∷ []) ≡ front round payloads ++ 1 ∷ record_text payload
unfolding front
front-push round payloads payload =
    ap (λ (l : List ℕ). 1 ∷ mark ++ round ∷ l) (records-push payloads payload)

pub length-front-push : (round : ℕ) (payloads : List (List ℕ)) (payload : List ℕ) → length (front round (payloads ++ payload ∷ [])) ≡ length (front round payloads) + (length payload + 5)
length-front-push round payloads payload =
    let long : length (front round payloads ++ 1 ∷ record_text payload) ≡ length (front round payloads) + length (1 ∷ record_text payload) = length-append (front round payloads) (1 ∷ record_text payload) in
    let text : length (record_text payload) ≡ length (be32 (length payload)) + length payload = length-append (be32 (length payload)) payload in
    let four : length (be32 (length payload)) ≡ 4 = length-be32 (length payload) in
    let whole : length (front round (payloads ++ payload ∷ [])) ≡ length (front round payloads ++ 1 ∷ record_text payload) = ap length (front-push round payloads payload) in
    omega arith

pub all-push : (P : List ℕ → Type 0) (payloads : List (List ℕ)) (payload : List ℕ) → All P payloads → P payload → All P (payloads ++ payload ∷ [])
all-push P payloads payload all here = All-append P payloads (payload ∷ []) all (only P payload here)
  where
    only : (P : List ℕ → Type 0) (payload : List ℕ) → P payload → All P (payload ∷ [])
    only P payload here zero d l = here
    only P payload here (suc k) d l = absurd (omega arith)

-- What a read and a crash show of the half that isn't the journal.
module _ (round : ℕ) (spare : Shown) where
  pub aside_seen : IsAside round spare → Older round spare.seen
  aside_seen (inl safe) = safe.1
  aside_seen (inr closed) = inl (shut_dead spare.seen closed.shut)

  pub aside_left : IsAside round spare → (d : List ℕ) → MayLeave spare d → Older round d
  aside_left (inl safe) d left = subst (λ f. Older round f) (sym (safe.0 d left)) safe.1
  aside_left (inr closed) d left = inl (shut_dead d (closed.left d left))

module _ (live spare : Shown) (round end : ℕ) (payloads : List (List ℕ)) (is_open : IsOpen live spare round end payloads) (payload : List ℕ) (small : length payload < 2 ^ 32) where
  pub starts : (bytes : List ℕ) → bytes ≡ record_text payload ++ 0 ∷ [] → Starts live end (front round payloads) (record_text payload) bytes
  starts bytes is = record { shut = is_open.half.shut; place = is_open.place; synced = is_open.synced; bytes_are = is }

  half_with : (c : List ℕ) → Shut (front round payloads ++ 1 ∷ record_text payload) c → IsHalf round (payloads ++ payload ∷ []) c
  half_with c shut = record {
    shut = subst (λ t. Shut t c) (sym (front-push round payloads payload)) shut;
    sizes = all-push (λ p. length p < 2 ^ 32) payloads payload is_open.half.sizes small;
    in_range = is_open.half.in_range;
  }

  half_with_or_without : (c : List ℕ) → WithOrWithout (front round payloads) (record_text payload) c → HalfWithOrWithout round payloads payload c
  half_with_or_without c (inl shut) = inl (record { shut = shut; sizes = is_open.half.sizes; in_range = is_open.half.in_range })
  half_with_or_without c (inr shut) = inr (half_with c shut)

  pub live_leaves : (new : Shown) → LeavesOnly live new (WithOrWithout (front round payloads) (record_text payload)) → LeavesOnly live new (HalfWithOrWithout round payloads payload)
  live_leaves new left = record {
    later = left.later;
    seen = half_with_or_without new.seen left.seen;
    now = λ c is. half_with_or_without c (left.now c is);
    each = λ c is. half_with_or_without c (left.each c is);
    before = λ t c le is. ⊎_elim (λ was. inl was) (λ here. inr (half_with_or_without c here)) (left.before t c le is);
  }

  pair_of : (c d : List ℕ) → HalfWithOrWithout round payloads payload c → Older round d → BeforeOrAfter payloads payload c d
  pair_of c d (inl half) older = inl (inl (round, half, older))
  pair_of c d (inr half) older = inr (inl (round, half, older))

  pub pair_leaves : (new : Shown) → LeavesOnly live new (HalfWithOrWithout round payloads payload) → LeavesPairs live spare new spare (BeforeOrAfter payloads payload)
  pair_leaves new left = record {
    seen = pair_of new.seen spare.seen left.seen (aside_seen round spare is_open.aside);
    now = λ c d at_c at_d. pair_of c d (left.now c at_c) (aside_left round spare is_open.aside d at_d);
    each = λ c d at_c at_d. pair_of c d (left.each c at_c) (aside_left round spare is_open.aside d at_d);
  }

  pub opened_next : (new : Shown) → Shut (front round payloads ++ 1 ∷ record_text payload) new.seen → IsSynced new → IsOpen new spare round (end + (length payload + 5)) (payloads ++ payload ∷ [])
  opened_next new shut synced = record {
    half = half_with new.seen shut;
    place = let place = is_open.place in let long = length-front-push round payloads payload in omega arith;
    synced = synced;
    aside = is_open.aside;
  }
