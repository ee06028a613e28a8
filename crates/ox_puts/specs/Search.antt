-- The search for the greatest sequence key of a prefix.
use Rattle.std.specs.Prelude.{◌≡◌, ℕ, ◌==◌, ◌&&◌, ◌⊎◌, true, All, List, [], ◌∷◌, take, Option, Some, None, Result, Ok, Err, if◌then◌else◌}
use Rattle.std.specs.Option.{ForSome}
use Rattle.std.specs.Ordering.{is_le}
use Rattle.std.specs.Str.Parse.{digits_value}
use Rattle.std.specs.declared.cmp.Ordering.TheVariants.{Less}
use Rattle.ox_types.specs.Order.{key_cmp}
use Rattle.ox_ops.specs.declared.answer.Record.{Record}
use Rattle.ox_ops.specs.declared.query.Compare.TheVariants.{Floor, Lower}
use Rattle.ox_ops.specs.Answer.{compared}
use Rattle.ox_ops.specs.Sequence.{is_group, numbers_of}
use Rattle.ox_puts.specs.declared.search.Look.{Look}
use Rattle.ox_puts.specs.declared.search.Look.TheVariants.{Numbers, Other}

-- the number that the digits are, if a group may have it
abbrev pub digits_number : List ℕ → Option ℕ
digits_number digits = if is_group digits then Some (digits_value 10 digits) else None

-- the number of the group at the front
abbrev pub front_number : List ℕ → Option ℕ
front_number [] = None
front_number (b ∷ bytes) = if b == 45 then digits_number (take 20 bytes) else None

-- a key before this one, which no sequence key of the prefix stands between
pub record IsCut (prefix : List ℕ) (count : ℕ) (key cut : List ℕ) : Type 0 where
  pub less : key_cmp cut key ≡ Less
  pub none_between : (q numbers : List ℕ) → numbers_of prefix count q ≡ Some numbers → is_le (key_cmp q key) ≡ true → is_le (key_cmp q cut) ≡ true

-- what was seen of a key: the numbers of a sequence key, or that it is none, with a cut, or without
abbrev pub Sees : List ℕ → ℕ → List ℕ → Look → Type 0
Sees prefix count key (Numbers numbers) = numbers_of prefix count key ≡ Some numbers
Sees prefix count key (Other None) = numbers_of prefix count key ≡ None
Sees prefix count key (Other (Some cut)) = IsCut prefix count key cut

-- where the search goes on from a key that is none: at the cut, or below the key
abbrev pub next_of : List ℕ → Option (List ℕ) → List Record → Option Record
next_of key None records = compared (λ (r : Record). r.key) Lower key records
next_of key (Some cut) records = compared (λ (r : Record). r.key) Floor cut records

-- the record stands at or before the one that was found
abbrev pub IsUpTo : Record → Option Record → Type 0
IsUpTo q None = ⊥
IsUpTo q (Some c) = is_le (key_cmp q.key c.key) ≡ true

-- it is one of the records
abbrev pub IsIn : {X : Type 0} → X → List X → Type 0
IsIn c [] = ⊥
IsIn c (r ∷ rs) = (r ≡ c) ⊎ IsIn c rs

-- what was found is a record, and no sequence key of the prefix stands past it
pub record IsLast (prefix : List ℕ) (count : ℕ) (records : List Record) (found : Option Record) : Type 0 where
  pub all : All (λ q. (numbers : List ℕ) → numbers_of prefix count q.key ≡ Some numbers → IsUpTo q found) records
  pub there : ForSome found (λ c. IsIn c records)

-- the numbers, unless a group is spent
abbrev pub numbers_or_group : List ℕ → Option ℕ → Result (List ℕ) ℕ
numbers_or_group numbers None = Ok numbers
numbers_or_group numbers (Some group) = Err group
