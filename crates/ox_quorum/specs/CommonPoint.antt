-- The common point of two term tables.
use Rattle.std.specs.Prelude.{ℕ, zero, suc, ◌-◌, ◌==◌, ◌&&◌, ◌||◌, nat_le, min, max, Bool, false, Option, Some, None, if◌then◌else◌}
use Rattle.ox_types.specs.declared.log.TermTable.{TermTable}
use Rattle.ox_types.specs.Log.{table_head, term_at}

-- the greatest number from the least one to the most that passes the test
unfoldable pub greatest : (ℕ → Bool) → ℕ → ℕ → Option ℕ
greatest test least zero = if least == 0 && test 0 then Some 0 else None
greatest test least (suc most) = if nat_le least (suc most) && test (suc most) then Some (suc most) else greatest test least most

-- both have a term, and it is the same
abbrev pub is_same_term : Option ℕ → Option ℕ → Bool
is_same_term (Some a) (Some b) = a == b
is_same_term (Some a) None = false
is_same_term None b = false

-- the tables agree on the entry before this count; before the first entry there is nothing to agree on
abbrev pub agree_at : TermTable → TermTable → ℕ → Bool
agree_at leader follower count = count == 0 || is_same_term (term_at leader (count - 1)) (term_at follower (count - 1))

-- the greatest count within both tables at which they agree
abbrev pub common_point_of : TermTable → TermTable → Option ℕ
common_point_of leader follower =
    greatest (agree_at leader follower) (max leader.base.count follower.base.count) (min (table_head leader).count (table_head follower).count)

-- the same among the counts up to a limit
abbrev pub common_point_to : ℕ → TermTable → TermTable → Option ℕ
common_point_to limit leader follower =
    greatest (agree_at leader follower) (max leader.base.count follower.base.count) (min limit (min (table_head leader).count (table_head follower).count))
