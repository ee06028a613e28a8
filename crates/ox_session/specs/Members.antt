-- The open sessions, and the pairs of a session and a key that joined it.
use Rattle.std.specs.Prelude.{ℕ, ◌==◌, ◌<◌, nat_lt, List, [], ◌∷◌, ◌++◌, map, filter}
use Rattle.std.specs.List.{flat_map}
use Rattle.ox_ops.specs.State.{Session}
use Rattle.ox_session.specs.declared.roster.Roster.{Roster}
use Rattle.ox_session.specs.Keys.{keys_in}

-- the open sessions, by rising id
abbrev pub sessions_of : List (ℕ × Roster) → List Session
sessions_of rosters = map (λ e. record { id = e.0; timeout = e.1.timeout }) rosters

-- the joined pairs of one session
abbrev pub pairs_in : ℕ × Roster → List (ℕ × List ℕ)
pairs_in e = map (λ k. (e.0, k)) (keys_in e.1)

-- the joined pairs of a session's id and a key, by rising id and then in the order of keys
abbrev pub joined : List (ℕ × Roster) → List (ℕ × List ℕ)
joined rosters = flat_map pairs_in rosters

-- the members of a session: the keys of its joined pairs
abbrev pub members_in : ℕ → List (ℕ × Roster) → List (List ℕ)
members_in id rosters = map (λ p. p.1) (filter (λ p. p.0 == id) (joined rosters))

-- the sessions with this one in its place by id
abbrev pub with_session : Session → List Session → List Session
with_session s sessions = filter (λ x. nat_lt x.id s.id) sessions ++ s ∷ filter (λ x. nat_lt s.id x.id) sessions

-- each session's id is below this one
abbrev pub AllBelow : ℕ → List Session → Type 0
AllBelow id [] = Unit {0}
AllBelow id (s ∷ sessions) = (s.id < id) × AllBelow id sessions
