-- Notices: no entry of a history is passed over.
use Rattle.std.specs.Prelude.{◌≡◌, ℕ, ◌+◌, ◌<◌, ◌≤◌, nat_lt, Bool, false, List, [], ◌∷◌, ◌++◌, length, map, take, drop, Option, Some, None, Ok, if◌then◌else◌}
use Rattle.ox_types.specs.declared.log.Entry.{Entry}
use Rattle.ox_types.specs.declared.log.EntryId.{EntryId}
use Rattle.ox_bytes.specs.Texts.{value_in}
use Rattle.ox_ops.specs.declared.query.ShardQuery.{ShardQuery}
use Rattle.ox_ops.specs.declared.query.ShardQuery.TheVariants as query
use Rattle.ox_ops.specs.declared.answer.ShardAnswer.{ShardAnswer}
use Rattle.ox_ops.specs.declared.answer.ShardAnswer.TheVariants as answer
use Rattle.ox_ops.specs.declared.notice.Notice.{Notice}
use Rattle.ox_ops.specs.declared.notice.NoticeItem.{NoticeItem}
use Rattle.ox_machine.specs.Meaning.{Meaning}
use Rattle.ox_machine.specs.Store.{id_of, command_of, after, state_after}
use Rattle.ox_wire.specs.Events.{RunEvent as Event}
use Rattle.ox_solo_safety.specs.Moments.{history_at, CameBefore, Reads}
use Rattle.ox_solo_safety.specs.Says.{Says}

-- What a machine says of notices: those that applying the command of an entry at a time gives, and the low mark of a value.
pub record Noticing (S C : Type 0) : Type 0 where
  pub given : S → EntryId → ℕ → C → List Notice
  pub low : S → ℕ

-- the notices of the entry at an offset
abbrev pub items_at : ℕ → List Notice → List NoticeItem
items_at offset notices = map (λ (n : Notice). record { offset = offset; notice = n }) notices

-- The answer is a page that begins these items, and it says whether any is left out behind it.
pub record ShowsFirst (items : List NoticeItem) (told : ShardAnswer) : Type 0 where
  pub page : List NoticeItem
  pub left : List NoticeItem
  pub more : Bool
  pub is : told ≡ answer.Notices page more
  pub all : page ++ left ≡ items
  pub more_is : more ≡ nat_lt 0 (length left)

module _ {S C R : Type 0} (M : Meaning S C R ShardQuery ShardAnswer) (N : Noticing S C) where
  -- the notices of the command of an entry; a Pass has none
  abbrev pub given_by_command : S → EntryId → ℕ → Option C → List Notice
  given_by_command s id time None = []
  given_by_command s id time (Some c) = N.given s id time c

  -- the notices that an entry gives
  abbrev pub given_by : S → Entry → List Notice
  given_by s e = given_by_command s (id_of e) e.time (command_of M e.body)

  -- those of the entry, if it stands above the offset
  abbrev pub given_by_one : ℕ → S → Entry → List NoticeItem
  given_by_one offset s e = if nat_lt offset e.offset then items_at e.offset (given_by s e) else []

  -- those of the entries above the offset, one by one
  abbrev pub given_above : ℕ → S → List Entry → List NoticeItem
  given_above offset s [] = []
  given_above offset s (e ∷ es) = given_by_one offset s e ++ given_above offset (after M s e) es

  -- The notices after an offset, without so many of the first, where the offset isn't below the low mark of the store after
  -- the history. Below the mark some may be gone, and the answer says just that.
  pub record IsNoticed (history : List Entry) (offset skip : ℕ) (told : ShardAnswer) : Type 0 where
    pub kept : N.low (state_after M history) ≤ offset → ShowsFirst (drop skip (given_above offset M.opening history)) told
    pub gone : offset < N.low (state_after M history) → told ≡ answer.NotRetained offset (N.low (state_after M history))

  -- each read of notices tells those that its prefix of the history gives
  pub record IsToldNotices (history : List Entry) (offset skip : ℕ) (bytes : List ℕ) : Type 0 where
    pub told : ShardAnswer
    pub says : Says M.answers bytes told
    pub noticed : IsNoticed history offset skip told

  abbrev pub NoticesAreComplete : ℕ → List Event → Type 0
  NoticesAreComplete blocks es =
      (k j a s t p offset skip : ℕ) (bytes asked : List ℕ) → Reads M blocks es k j a s t p bytes →
      CameBefore M blocks es (k + 1) a s (record { write = false; body = asked }) → value_in M.queries asked ≡ Ok (query.Notices offset skip) →
      IsToldNotices (take p (history_at M blocks es (k + 1) s)) offset skip bytes
