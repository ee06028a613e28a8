-- The bytes of what replicas and coordinators say to one another (docs/FORMATS.md). An enum's byte counts its variants.
use Rattle.std.specs.Prelude.{ℕ, ◌+◌, ◌==◌, nat_le, List, [], ◌∷◌, Option, Some, None}
use Rattle.ox_types.specs.declared.log.Head.{Head}
use Rattle.ox_types.specs.declared.log.TermTable.{TermTable}
use Rattle.ox_types.specs.declared.log.Entry.{Entry}
use Rattle.ox_types.specs.declared.snapshot.Chunk.{Chunk}
use Rattle.ox_types.specs.declared.refusal.Refusal.{Refusal}
use Rattle.ox_bytes.specs.declared.fault.WireRule.TheVariants.{Range, Order}
use Rattle.ox_bytes.specs.Form.{Form, checked, pair, pair_by, struct_of, empty, variant}
use Rattle.ox_bytes.specs.Fields.{number32, choice}
use Rattle.ox_bytes.specs.Lists.{Course, list_by}
use Rattle.ox_bytes.specs.LogForms.{term, count, entry_offset, entry_time, entry_body, head, term_table, chunk, refusal}
use Rattle.ox_quorum.specs.declared.config.Config.{Config}
use Rattle.ox_quorum.specs.Forms.{config, node_from}
use Rattle.ox_wire.specs.declared.body.Follower.{Follower}
use Rattle.ox_wire.specs.declared.body.Asked.{Asked}
use Rattle.ox_wire.specs.declared.body.Asked.TheVariants as asked_is
use Rattle.ox_wire.specs.declared.body.Body.{Body}
use Rattle.ox_wire.specs.declared.body.Body.TheVariants as body_is

-- a node that is to follow, and the terms of its log
unfoldable pub follower : Form Follower
follower = struct_of (λ p. record { node = p.0; table = p.1 }) (λ f. (f.node, f.table)) (pair number32 term_table)

-- a follower behind others: its id is at least this one, or else out of order
unfoldable pub follower_from : ℕ → Form Follower
follower_from least = struct_of (λ p. record { node = p.0; table = p.1 }) (λ f. (f.node, f.table)) (pair (node_from least) term_table)

-- ids rise from follower to follower
abbrev pub followers_course : Course ℕ Follower
followers_course = record { form = follower_from; after = λ least f. f.node + 1 }

-- the followers of a leader
abbrev pub followers : Form (List Follower)
followers = list_by number32 followers_course 0

-- an entry of an Append of this term: its term is at most that one, or else out of range; it isn't below the term before,
-- and its offset is the one that comes next, or else they are out of order
unfoldable pub entry_behind : ℕ → ℕ × ℕ → Form Entry
entry_behind top next = struct_of (λ p. record { term = p.0; offset = p.1.0; time = p.1.1.0; body = p.1.1.1 }) (λ e. (e.term, (e.offset, (e.time, e.body))))
    (pair (checked (λ t. nat_le next.0 t) Order (checked (λ t. nat_le t top) Range term)) (pair (checked (λ o. o == next.1) Order entry_offset) (pair entry_time entry_body)))

-- terms never fall from entry to entry, and offsets go on by ones
abbrev pub entries_course : ℕ → Course (ℕ × ℕ) Entry
entries_course top = record { form = entry_behind top; after = λ next e. (e.term, e.offset + 1) }

-- how many entries an Append has
unfoldable pub entries_number : Form ℕ
entries_number = checked (λ n. nat_le n 64) Range number32

-- the entries of an Append of this term, from this offset on
abbrev pub entries_from : ℕ → ℕ → Form (List Entry)
entries_from top from = list_by entries_number (entries_course top) (0, from)

-- the fields of an Append: its term, the offset of its first entry, how many entries are committed, and the entries
unfoldable pub append : Form (ℕ × (ℕ × (ℕ × List Entry)))
append = pair_by term (λ t. pair_by count (λ from. pair count (entries_from t from)))

-- the byte of what was asked, and whether it is of this kind
abbrev pub asked_tag : Asked → ℕ
asked_tag asked_is.NewTerm = 0
asked_tag asked_is.BecomeLeader = 1
asked_tag asked_is.AddFollower = 2

abbrev pub asked_new_term : Asked → Option (Unit {0})
asked_new_term asked_is.NewTerm = Some tt
asked_new_term _ = None

abbrev pub asked_become_leader : Asked → Option (Unit {0})
asked_become_leader asked_is.BecomeLeader = Some tt
asked_become_leader _ = None

abbrev pub asked_add_follower : Asked → Option (Unit {0})
asked_add_follower asked_is.AddFollower = Some tt
asked_add_follower _ = None

-- what was asked
unfoldable pub asked : Form Asked
asked = choice asked_tag (
    variant (λ _. asked_is.NewTerm) asked_new_term empty
    ∷ variant (λ _. asked_is.BecomeLeader) asked_become_leader empty
    ∷ variant (λ _. asked_is.AddFollower) asked_add_follower empty
    ∷ [])

-- the byte of what a message of the protocol says, and its fields where it is of this kind
abbrev pub body_tag : Body → ℕ
body_tag (body_is.NewTerm t) = 0
body_tag (body_is.BecomeLeader t c fs) = 1
body_tag (body_is.AddFollower t f) = 2
body_tag (body_is.Fenced t table) = 3
body_tag (body_is.Ready t) = 4
body_tag (body_is.Refused a t r) = 5
body_tag (body_is.Truncate t c) = 6
body_tag (body_is.Append t from c es) = 7
body_tag (body_is.Snapshot c) = 8
body_tag (body_is.Ack t c) = 9
body_tag (body_is.Want t h n) = 10

-- the fields where it is of a kind, and the form of that kind
abbrev pub body_new_term : Body → Option (ℕ)
body_new_term (body_is.NewTerm t) = Some t
body_new_term _ = None

abbrev pub as_new_term : Form Body
as_new_term = variant (λ p. body_is.NewTerm p) body_new_term term

abbrev pub body_become_leader : Body → Option (ℕ × (Config × List Follower))
body_become_leader (body_is.BecomeLeader t c fs) = Some (t, (c, fs))
body_become_leader _ = None

abbrev pub as_become_leader : Form Body
as_become_leader = variant (λ p. body_is.BecomeLeader p.0 p.1.0 p.1.1) body_become_leader (pair term (pair config followers))

abbrev pub body_add_follower : Body → Option (ℕ × Follower)
body_add_follower (body_is.AddFollower t f) = Some (t, f)
body_add_follower _ = None

abbrev pub as_add_follower : Form Body
as_add_follower = variant (λ p. body_is.AddFollower p.0 p.1) body_add_follower (pair term follower)

abbrev pub body_fenced : Body → Option (ℕ × TermTable)
body_fenced (body_is.Fenced t table) = Some (t, table)
body_fenced _ = None

abbrev pub as_fenced : Form Body
as_fenced = variant (λ p. body_is.Fenced p.0 p.1) body_fenced (pair term term_table)

abbrev pub body_ready : Body → Option (ℕ)
body_ready (body_is.Ready t) = Some t
body_ready _ = None

abbrev pub as_ready : Form Body
as_ready = variant (λ p. body_is.Ready p) body_ready term

abbrev pub body_refused : Body → Option (Asked × (ℕ × Refusal))
body_refused (body_is.Refused a t r) = Some (a, (t, r))
body_refused _ = None

abbrev pub as_refused : Form Body
as_refused = variant (λ p. body_is.Refused p.0 p.1.0 p.1.1) body_refused (pair asked (pair term refusal))

abbrev pub body_truncate : Body → Option (ℕ × ℕ)
body_truncate (body_is.Truncate t c) = Some (t, c)
body_truncate _ = None

abbrev pub as_truncate : Form Body
as_truncate = variant (λ p. body_is.Truncate p.0 p.1) body_truncate (pair term count)

abbrev pub body_append : Body → Option (ℕ × (ℕ × (ℕ × List Entry)))
body_append (body_is.Append t from c es) = Some (t, (from, (c, es)))
body_append _ = None

abbrev pub as_append : Form Body
as_append = variant (λ p. body_is.Append p.0 p.1.0 p.1.1.0 p.1.1.1) body_append append

abbrev pub body_snapshot : Body → Option (Chunk)
body_snapshot (body_is.Snapshot c) = Some c
body_snapshot _ = None

abbrev pub as_snapshot : Form Body
as_snapshot = variant (λ p. body_is.Snapshot p) body_snapshot chunk

abbrev pub body_ack : Body → Option (ℕ × ℕ)
body_ack (body_is.Ack t c) = Some (t, c)
body_ack _ = None

abbrev pub as_ack : Form Body
as_ack = variant (λ p. body_is.Ack p.0 p.1) body_ack (pair term count)

abbrev pub body_want : Body → Option (ℕ × (Head × ℕ))
body_want (body_is.Want t h n) = Some (t, (h, n))
body_want _ = None

abbrev pub as_want : Form Body
as_want = variant (λ p. body_is.Want p.0 p.1.0 p.1.1) body_want (pair term (pair head number32))

-- what a message of the protocol says
unfoldable pub body : Form Body
body = choice body_tag (as_new_term ∷ as_become_leader ∷ as_add_follower ∷ as_fenced ∷ as_ready ∷ as_refused ∷ as_truncate ∷ as_append ∷ as_snapshot ∷ as_ack ∷ as_want ∷ [])
