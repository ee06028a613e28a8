-- Tales: what nodes have kept, one moment behind the other, and what a tale says of a node.
use Rattle.std.specs.Prelude.{◌≡◌, ℕ, ◌==◌, List, [], ◌∷◌, ◌⊎◌, if◌then◌else◌}
use Rattle.ox_types.specs.declared.log.Entry.{Entry}
use Rattle.ox_types.specs.declared.log.Seat.{Seat}
use Rattle.ox_types.specs.declared.log.Seat.TheVariants.{Fenced, Attached, Led}

-- What a node has kept: its term, its seat, and the list of entries that its log stands for, those of its snapshot too.
pub record Moment : Type 0 where
  pub node : ℕ
  pub term : ℕ
  pub seat : Seat
  pub entries : List Entry
  -- while it leads, the count of its base
  pub base : ℕ

-- A tale is a list of moments, the newest first. Each node begins fenced at term 0, with no entries.
abbrev pub latest : List Moment → ℕ → Moment
latest [] n = record { node = n; term = 0; seat = Fenced; entries = []; base = 0 }
latest (m ∷ older) n = if m.node == n then m else latest older n

-- the moment is of this node, in this term and seat, with this list
pub record Matches (m : Moment) (n t : ℕ) (seat : Seat) (list : List Entry) : Type 0 where
  pub at_node : m.node ≡ n
  pub at_term : m.term ≡ t
  pub at_seat : m.seat ≡ seat
  pub has : m.entries ≡ list

-- the tale has such a moment
abbrev pub Was : List Moment → ℕ → ℕ → Seat → List Entry → Type 0
Was [] n t seat list = ⊥
Was (m ∷ older) n t seat list = Matches m n t seat list ⊎ Was older n t seat list

-- node n was fenced at term t, with this list
abbrev pub WasFenced : List Moment → ℕ → ℕ → List Entry → Type 0
WasFenced tale n t list = Was tale n t Fenced list

-- node n was attached or led in term t, with this list
abbrev pub TookPart : List Moment → ℕ → ℕ → List Entry → Type 0
TookPart tale n t list = Was tale n t Attached list ⊎ Was tale n t Led list

-- a leader of term t had this list
abbrev pub LeaderHad : List Moment → ℕ → List Entry → Type 0
LeaderHad tale t list = (n : ℕ) × Was tale n t Led list

-- a leader of term t had a base of this count
abbrev pub LeaderHadBase : List Moment → ℕ → ℕ → Type 0
LeaderHadBase [] t base = ⊥
LeaderHadBase (m ∷ older) t base = ((m.seat ≡ Led) × (m.term ≡ t) × (m.base ≡ base)) ⊎ LeaderHadBase older t base

-- a node that was fenced began to lead in term t, and had this list before
abbrev pub LedFrom : List Moment → ℕ → List Entry → Type 0
LedFrom [] t list = ⊥
LedFrom (m ∷ older) t list =
    ((m.term ≡ t) × (m.seat ≡ Led) × ((latest older m.node).seat ≡ Fenced) × ((latest older m.node).entries ≡ list)) ⊎ LedFrom older t list
