-- One call more on a disk.
use Rattle.std.proofs.Common.{Result, Ok, Err, OnOk, OnErr, ◌≡◌, ◌⊎◌, inl, inr, ℕ, ◌+◌, ◌-◌, ◌^◌, ◌<◌, ◌≤◌, min, List, [], ◌∷◌, ◌++◌, length, take, drop, replicate, fold, refl, sym, ◌∙◌, ap, subst, arith, append_assoc, length-append}
use Rattle.std.proofs.Math.Seq.{take-length}
use Rattle.std.proofs.lemmas.List.{take_at, drop_at, length-take-le, take-append-le, drop-append-le, length-replicate}
use Rattle.std.proofs.lemmas.List.Sums.{fold-append}
use Rattle.ox_outside.specs.Disk.{MayLeave, Placed, Torn, Elapses, Stays, Writes, Syncs}
use Rattle.ox_memory.specs.Log.{put, wrote, tore, Pending, seen_of, image_of, after_call, after, Fits, CutShort, Leaves, shown}
use Rattle.ox_memory.specs.declared.log.Call.{Call}
use Rattle.ox_memory.specs.declared.log.Call.TheVariants.{Write, Sync, Crash}
use Rattle.ox_memory.specs.declared.log.Image.{Image}
use Rattle.ox_memory.specs.declared.log.Image.TheVariants.{NoneKept, AllKept}
use Rattle.ox_memory.specs.declared.log.Image.TheVariants.{Torn as EachTorn}
use Rattle.ox_memory.proofs.Placing.{length-put, after_ones}

below : (a b : ℕ) → (a ≤ b) ⊎ (b < a)
below a b = grind arith

-- The log with one call more.
module _ (log more : List Call) (call : Call) (is : more ≡ log ++ call ∷ []) where
  pub after_more : after more ≡ after_call (after log) call
  after_more = ap (λ (l : List Call). after l) is ∙ fold-append after_call (record { safe = []; writes = [] }) log (call ∷ [])

  pub longer : length more ≡ length log + 1
  longer = omega (arith, ap length is, length-append log (call ∷ []))

  front : (n : ℕ) → n ≤ length log → take n more ≡ take n log
  front n le = ap (λ (l : List Call). take n l) is ∙ take-append-le n log (call ∷ []) le

  whole : (n : ℕ) → length log < n → n ≤ length more → take n more ≡ more
  whole n above below =
      let long = longer in
      let at_end : n ≡ length more = omega arith in
      ap (λ (k : ℕ). take k more) at_end ∙ take-length more

  -- what a crash now may leave
  pub leaves_now : (calls : ℕ) (c : List ℕ) → MayLeave (shown more calls) c → Leaves (after_call (after log) call) c
  leaves_now calls c left =
      let n = left.0 in
      let long = longer in
      let from : length more ≤ n = left.1 in
      let to : n ≤ length more = left.2 in
      subst (λ (f : Pending). Leaves f c) (ap (λ (l : List Call). after l) (whole n (omega arith) to) ∙ after_more) left.3

  pub may_leave : (calls : ℕ) (c : List ℕ) → Leaves (after_call (after log) call) c → MayLeave (shown more calls) c
  may_leave calls c leaves =
      (length more, omega arith, omega arith, subst (λ (f : Pending). Leaves f c) (sym (ap (λ (l : List Call). after l) (take-length more) ∙ after_more)) leaves)

  pub elapses : (calls calls_new : ℕ) → calls_new ≡ min (calls + 1) (2 ^ 64 - 1) → Elapses (shown log calls) (shown more calls_new)
  elapses calls calls_new counted =
      let long = longer in
      record {
        counted = counted;
        later = omega arith;
        nothing_else = λ t c le left. nothing t c left;
        keeps = λ t c le left. (left.0, left.1, (let n : left.0 ≤ length log = left.2 in omega arith), subst (λ (l : List Call). Leaves (after l) c) (sym (front left.0 left.2)) left.3);
        counts = λ t c le left. (left.0, (let n : length more ≤ left.0 = left.1 in omega arith), left.2, left.3);
      }
    where
      nothing : (t : ℕ) (c : List ℕ) → (shown more calls_new).left_since t c → (shown log calls).left_since t c ⊎ MayLeave (shown more calls_new) c
      nothing t c left = elim (below left.0 (length log)) [
        | inl old ↦ inl (left.0, left.1, old, subst (λ (l : List Call). Leaves (after l) c) (front left.0 old) left.3)
        | inr new ↦ inr (left.0, (let long = longer in omega arith), left.2, left.3)
      ]

-- a call that leaves the log as it is
pub still : (log more : List Call) (calls calls_new : ℕ) → more ≡ log → calls_new ≡ min (calls + 1) (2 ^ 64 - 1) → Stays (shown log calls) (shown more calls_new)
still log more calls calls_new is counted = record {
  seen = ap (λ (l : List Call). seen_of (after l)) is;
  crash = λ c left. same c left;
  time = record {
    counted = counted;
    later = omega (arith, ap length is);
    nothing_else = λ t c le left. inl (old t c left);
    keeps = λ t c le left. new t c left;
    counts = λ t c le left. (left.0, (let n : length more ≤ left.0 = left.1 in omega (arith, ap length is)), left.2, left.3);
  };
}
  where
    old : (t : ℕ) (c : List ℕ) → (shown more calls_new).left_since t c → (shown log calls).left_since t c
    old t c left = let P : List Call → Type 0 = λ l. (shown l calls).left_since t c in subst P is left

    new : (t : ℕ) (c : List ℕ) → (shown log calls).left_since t c → (shown more calls_new).left_since t c
    new t c left = let P : List Call → Type 0 = λ l. (shown l calls).left_since t c in subst P (sym is) left

    same : (c : List ℕ) → MayLeave (shown more calls_new) c → MayLeave (shown log calls) c
    same c left = let P : List Call → Type 0 = λ l. MayLeave (shown l calls) c in subst P is left

-- a write that is done is one that a crash may have cut short
put_torn : (file : List ℕ) (at : ℕ) (bytes : List ℕ) → at ≤ length file → Torn at (length bytes) file (put file at bytes)
put_torn file at bytes le =
    let front : length (take at file) ≡ at = length-take-le at file le in
    let long = length-put file at bytes le in
    let parts : put file at bytes ≡ take at file ++ (bytes ++ drop (at + length bytes) file) = append_assoc (take at file) bytes (drop (at + length bytes) file) in
    let size_front : length (take at file ++ bytes) ≡ at + length bytes = omega (arith, length-append (take at file) bytes, front) in
    record {
      before = ap (λ (l : List ℕ). take at l) parts ∙ take_at (take at file) (bytes ++ drop (at + length bytes) file) at front;
      after = drop_at (take at file ++ bytes) (drop (at + length bytes) file) (at + length bytes) size_front;
      no_shorter = omega arith;
      no_longer = omega arith;
    }

torn_same : (at n : ℕ) (d : List ℕ) → Torn at n d d
torn_same at n d = record { before = refl; after = refl; no_shorter = omega arith; no_longer = omega arith }

cut_push : (file : List ℕ) (writes : List Call) (at : ℕ) (bytes c : List ℕ) → CutShort file (writes ++ Write at bytes ∷ []) c → (d : List ℕ) × CutShort file writes d × Torn at (length bytes) d c
cut_push file [] at bytes c cut = (file, refl, subst (λ (l : List ℕ). Torn at (length bytes) file l) (sym cut.2) cut.1)
cut_push file (Write from piece ∷ writes) at bytes c cut =
    let more = cut_push cut.0 writes at bytes c cut.2 in
    (more.0, (cut.0, cut.1, more.1), more.2)
cut_push file (Sync ∷ writes) at bytes c cut = cut_push file writes at bytes c cut
cut_push file (Crash image ∷ writes) at bytes c cut = cut_push file writes at bytes c cut

-- none of the writes
none_kept : (file : List ℕ) (writes : List Call) → CutShort file writes file
none_kept file [] = refl
none_kept file (Write at bytes ∷ writes) = (file, torn_same at (length bytes) file, none_kept file writes)
none_kept file (Sync ∷ writes) = none_kept file writes
none_kept file (Crash image ∷ writes) = none_kept file writes

-- ones in place of the bytes of each write
each_torn : (file : List ℕ) (writes : List Call) → Fits file writes → CutShort file writes (fold tore file writes)
each_torn file [] fits = refl
each_torn file (Write at bytes ∷ writes) fits =
    let ones = replicate {A = ℕ} (length bytes) 1 in
    let size : length ones ≡ length bytes = length-replicate {A = ℕ} (length bytes) 1 in
    let torn : Torn at (length bytes) file (put file at ones) = subst (λ (n : ℕ). Torn at n file (put file at ones)) size (put_torn file at ones fits.0) in
    (put file at ones, torn, each_torn (put file at ones) writes (after_ones file at bytes writes fits.0 fits.1).fits)
each_torn file (Sync ∷ writes) fits = each_torn file writes fits
each_torn file (Crash image ∷ writes) fits = each_torn file writes fits

image_leaves : (image : Image) (file : Pending) → Fits file.safe file.writes → Leaves file (image_of image file)
image_leaves NoneKept file fits = inr (none_kept file.safe file.writes)
image_leaves AllKept file fits = inl refl
image_leaves EachTorn file fits = inr (each_torn file.safe file.writes fits)

pub image_left : (log more : List Call) (calls : ℕ) (image : Image) → more ≡ log ++ Crash image ∷ [] → Fits ((after log).safe) ((after log).writes) → MayLeave (shown log calls) (seen_of (after more))
image_left log more calls image is fits =
    let leaves : Leaves (after log) (image_of image (after log)) = image_leaves image (after log) fits in
    let now : seen_of (after more) ≡ image_of image (after log) = ap seen_of (after_more log more (Crash image) is) in
    (length log, omega arith, omega arith, subst (λ (c : List ℕ). Leaves (after (take (length log) log)) c) (sym now) (subst (λ (l : List Call). Leaves (after l) (image_of image (after log))) (sym (take-length log)) leaves))

fits_push : (file : List ℕ) (writes : List Call) (at : ℕ) (bytes : List ℕ) → Fits file writes → at ≤ length (fold wrote file writes) → Fits file (writes ++ Write at bytes ∷ [])
fits_push file [] at bytes fits le = (le, tt)
fits_push file (Write from piece ∷ writes) at bytes fits le = (fits.0, fits_push (put file from piece) writes at bytes fits.1 le)
fits_push file (Sync ∷ writes) at bytes fits le = fits_push file writes at bytes fits le
fits_push file (Crash image ∷ writes) at bytes fits le = fits_push file writes at bytes fits le

-- A write.
module _ (log more : List Call) (at : ℕ) (bytes : List ℕ) (is : more ≡ log ++ Write at bytes ∷ []) (le : at ≤ length (seen_of (after log))) where
  pub seen_more : seen_of (after more) ≡ put (seen_of (after log)) at bytes
  seen_more = ap seen_of (after_more log more (Write at bytes) is) ∙ fold-append wrote ((after log).safe) ((after log).writes) (Write at bytes ∷ [])

  pub safe_more : (after more).safe ≡ (after log).safe
  safe_more = ap (λ (f : Pending). f.safe) (after_more log more (Write at bytes) is)

  pub writes_more : (n : ℕ) → n ≤ length log → drop n log ≡ (after log).writes → drop n more ≡ (after more).writes
  writes_more n within drop_is =
      ap (λ (l : List Call). drop n l) is ∙ drop-append-le n log (Write at bytes ∷ []) within ∙ ap (λ (l : List Call). l ++ Write at bytes ∷ []) drop_is
      ∙ sym (ap (λ (f : Pending). f.writes) (after_more log more (Write at bytes) is))

  pub fits_more : Fits ((after log).safe) ((after log).writes) → Fits ((after more).safe) ((after more).writes)
  fits_more fits = subst (λ (f : Pending). Fits f.safe f.writes) (sym (after_more log more (Write at bytes) is)) (fits_push ((after log).safe) ((after log).writes) at bytes fits le)

  now : (calls : ℕ) (c : List ℕ) → Leaves (after log) c → MayLeave (shown log calls) c
  now calls c leaves = (length log, omega arith, omega arith, subst (λ (l : List Call). Leaves (after l) c) (sym (take-length log)) leaves)

  crash : (calls : ℕ) (c : List ℕ) → Leaves (after_call (after log) (Write at bytes)) c → (d : List ℕ) × MayLeave (shown log calls) d × Torn at (length bytes) d c
  crash calls c (inl seen) =
      let file = seen_of (after log) in
      let is_put : c ≡ put file at bytes = seen ∙ fold-append wrote ((after log).safe) ((after log).writes) (Write at bytes ∷ []) in
      (file, now calls file (inl refl), subst (λ (l : List ℕ). Torn at (length bytes) file l) (sym is_put) (put_torn file at bytes le))
  crash calls c (inr cut) =
      let from = cut_push ((after log).safe) ((after log).writes) at bytes c cut in
      (from.0, now calls from.0 (inr from.1), from.2)

  done : {T E : Type 0} (r : Result T E) → OnOk r (Placed ((shown log 0).seen) at bytes ((shown more 0).seen))
  done (Ok x) = seen_more
  done (Err e) = tt

  failed : {T E : Type 0} (calls_new : ℕ) (r : Result T E) → OnErr r (MayLeave (shown more calls_new) ((shown more calls_new).seen))
  failed calls_new (Ok x) = tt
  failed calls_new (Err e) = (length more, omega arith, omega arith, inl (ap (λ (l : List Call). seen_of (after l)) (sym (take-length more))))

  -- whether it answers so or fails
  pub written : {T E : Type 0} (calls calls_new : ℕ) (r : Result T E) → calls_new ≡ min (calls + 1) (2 ^ 64 - 1) → Writes (shown log calls) at bytes (shown more calls_new) r
  written calls calls_new r counted = record {
    written = done r;
    failed = failed calls_new r;
    crash = λ c left. crash calls c (leaves_now log more (Write at bytes) is calls_new c left);
    time = elapses log more (Write at bytes) is calls calls_new counted;
  }

pub not_written : {T E : Type 0} (log more : List Call) (calls calls_new at : ℕ) (bytes : List ℕ) (e : E) → more ≡ log → calls_new ≡ min (calls + 1) (2 ^ 64 - 1) → Writes {T = T} {E = E} (shown log calls) at bytes (shown more calls_new) (Err e)
not_written log more calls calls_new at bytes e is counted =
    let stays = still log more calls calls_new is counted in
    record {
      written = tt;
      failed = (length more, omega arith, omega arith, inl (ap (λ (l : List Call). seen_of (after l)) (sym (take-length more))));
      crash = λ c left. (c, stays.crash c left, torn_same at (length bytes) c);
      time = stays.time;
    }

pub synced : {T E : Type 0} (log more : List Call) (calls calls_new : ℕ) (x : T) → more ≡ log ++ Sync ∷ [] → calls_new ≡ min (calls + 1) (2 ^ 64 - 1) → Syncs {T = T} {E = E} (shown log calls) (shown more calls_new) (Ok x)
synced log more calls calls_new x is counted =
    let seen : seen_of (after more) ≡ seen_of (after log) = ap seen_of (after_more log more Sync is) in
    let only : (c : List ℕ) → MayLeave (shown more calls_new) c → c ≡ seen_of (after log) = λ c left. either c (leaves_now log more Sync is calls_new c left) in
    record {
      stays = record {
        seen = seen;
        crash = λ c left. (length log, omega arith, omega arith, inl (only c left ∙ ap (λ (l : List Call). seen_of (after l)) (sym (take-length log))));
        time = elapses log more Sync is calls calls_new counted;
      };
      synced = λ c left. only c left ∙ sym seen;
    }
  where
    either : (c : List ℕ) → Leaves (after_call (after log) Sync) c → c ≡ seen_of (after log)
    either c (inl is) = is
    either c (inr is) = is
