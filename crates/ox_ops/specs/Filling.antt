-- A page that is filled item by item.
use Rattle.std.specs.Prelude.{◌≡◌, ◌+◌, ℕ, Bool, not, ◌&&◌, nat_le, nat_lt, List, length, sum_by}
use Rattle.ox_ops.specs.Page.{page_of, is_more, page_items, page_bytes}

-- the items that it has, the bytes that it has room for, and whether an item was left out
pub record Filling (T : Type 0) : Type 0 where
  pub items : List T
  pub room : ℕ
  pub more : Bool

-- it takes one more item of so many bytes
abbrev pub has_room : {T : Type 0} → Filling T → ℕ → Bool
has_room page size = not page.more && nat_lt (length page.items) page_items && nat_le size page.room

-- It is the page of what was offered so far.
pub record Holds {T : Type 0} (size : T → ℕ) (page : Filling T) (offered : List T) : Type 0 where
  pub items : page.items ≡ page_of size offered
  pub more : page.more ≡ is_more size offered
  pub room : page.room + sum_by size page.items ≡ page_bytes
