-- The bytes of every message (docs/FORMATS.md). An enum's byte counts its variants.
use Rattle.std.specs.Prelude.{ℕ, Bool, List, [], ◌∷◌, Option, Some, None}
use Rattle.ox_types.specs.declared.peer.Peer.{Peer}
use Rattle.ox_types.specs.declared.refusal.Refusal.{Refusal}
use Rattle.ox_bytes.specs.Form.{Form, pair, empty, variant}
use Rattle.ox_bytes.specs.Fields.{number32, number64, bool, octets, choice}
use Rattle.ox_bytes.specs.LogForms.{term, count, entry_offset, peer, refusal}
use Rattle.ox_wire.specs.declared.body.Body.{Body}
use Rattle.ox_wire.specs.declared.message.Outcome.{Outcome}
use Rattle.ox_wire.specs.declared.message.Outcome.TheVariants as outcome_is
use Rattle.ox_wire.specs.declared.message.Message.{Message}
use Rattle.ox_wire.specs.declared.message.Message.TheVariants as message_is
use Rattle.ox_wire.specs.declared.swap.SwapRefused.{SwapRefused}
use Rattle.ox_wire.specs.declared.swap.SwapRefused.TheVariants as refused_is
use Rattle.ox_wire.specs.declared.swap.SwapOutcome.{SwapOutcome}
use Rattle.ox_wire.specs.declared.swap.SwapOutcome.TheVariants as swap_is
use Rattle.ox_wire.specs.BodyForms.{body}

-- the byte of an outcome, and its fields where it is of this kind
abbrev pub outcome_tag : Outcome → ℕ
outcome_tag (outcome_is.Ack t o r) = 0
outcome_tag (outcome_is.Read t n a) = 1
outcome_tag (outcome_is.Refused r) = 2

abbrev pub outcome_ack : Outcome → Option (ℕ × (ℕ × List ℕ))
outcome_ack (outcome_is.Ack t o r) = Some (t, (o, r))
outcome_ack _ = None

abbrev pub outcome_read : Outcome → Option (ℕ × (ℕ × List ℕ))
outcome_read (outcome_is.Read t n a) = Some (t, (n, a))
outcome_read _ = None

abbrev pub outcome_refused : Outcome → Option (Refusal)
outcome_refused (outcome_is.Refused r) = Some r
outcome_refused _ = None

-- what became of a request
unfoldable pub outcome : Form Outcome
outcome = choice outcome_tag (
    variant (λ p. outcome_is.Ack p.0 p.1.0 p.1.1) outcome_ack (pair term (pair entry_offset octets))
    ∷ variant (λ p. outcome_is.Read p.0 p.1.0 p.1.1) outcome_read (pair term (pair count octets))
    ∷ variant (λ p. outcome_is.Refused p) outcome_refused refusal
    ∷ [])

-- the byte of a refusal of a swap, and its fields where it is of this kind
abbrev pub swap_refused_tag : SwapRefused → ℕ
swap_refused_tag refused_is.UnknownShard = 0
swap_refused_tag (refused_is.InProgress t) = 1
swap_refused_tag (refused_is.NotMember n) = 2
swap_refused_tag (refused_is.UnknownNode n) = 3
swap_refused_tag (refused_is.AlreadyMember n) = 4
swap_refused_tag (refused_is.TermsSpent t v) = 5

abbrev pub swap_refused_unknown_shard : SwapRefused → Option (Unit {0})
swap_refused_unknown_shard refused_is.UnknownShard = Some tt
swap_refused_unknown_shard _ = None

abbrev pub swap_refused_in_progress : SwapRefused → Option (ℕ)
swap_refused_in_progress (refused_is.InProgress t) = Some t
swap_refused_in_progress _ = None

abbrev pub swap_refused_not_member : SwapRefused → Option (ℕ)
swap_refused_not_member (refused_is.NotMember n) = Some n
swap_refused_not_member _ = None

abbrev pub swap_refused_unknown_node : SwapRefused → Option (ℕ)
swap_refused_unknown_node (refused_is.UnknownNode n) = Some n
swap_refused_unknown_node _ = None

abbrev pub swap_refused_already_member : SwapRefused → Option (ℕ)
swap_refused_already_member (refused_is.AlreadyMember n) = Some n
swap_refused_already_member _ = None

abbrev pub swap_refused_terms_spent : SwapRefused → Option (ℕ × ℕ)
swap_refused_terms_spent (refused_is.TermsSpent t v) = Some (t, v)
swap_refused_terms_spent _ = None

-- why no swap begins
unfoldable pub swap_refused : Form SwapRefused
swap_refused = choice swap_refused_tag (
    variant (λ _. refused_is.UnknownShard) swap_refused_unknown_shard empty
    ∷ variant (λ p. refused_is.InProgress p) swap_refused_in_progress term
    ∷ variant (λ p. refused_is.NotMember p) swap_refused_not_member number32
    ∷ variant (λ p. refused_is.UnknownNode p) swap_refused_unknown_node number32
    ∷ variant (λ p. refused_is.AlreadyMember p) swap_refused_already_member number32
    ∷ variant (λ p. refused_is.TermsSpent p.0 p.1) swap_refused_terms_spent (pair term number64)
    ∷ [])

-- the byte of the outcome of a swap, and its fields where it is of this kind
abbrev pub swap_outcome_tag : SwapOutcome → ℕ
swap_outcome_tag (swap_is.Begun t) = 0
swap_outcome_tag (swap_is.Refused r) = 1

abbrev pub swap_outcome_begun : SwapOutcome → Option (ℕ)
swap_outcome_begun (swap_is.Begun t) = Some t
swap_outcome_begun _ = None

abbrev pub swap_outcome_refused : SwapOutcome → Option (SwapRefused)
swap_outcome_refused (swap_is.Refused r) = Some r
swap_outcome_refused _ = None

-- what became of a swap
unfoldable pub swap_outcome : Form SwapOutcome
swap_outcome = choice swap_outcome_tag (
    variant (λ p. swap_is.Begun p) swap_outcome_begun term
    ∷ variant (λ p. swap_is.Refused p) swap_outcome_refused swap_refused
    ∷ [])

-- the byte of a message, and its fields where it is of this kind
abbrev pub message_tag : Message → ℕ
message_tag (message_is.Peer from to shard b) = 0
message_tag (message_is.Request n shard w b) = 1
message_tag (message_is.Reply n o) = 2
message_tag (message_is.Swap n shard a b) = 3
message_tag (message_is.SwapReply n o) = 4

-- the fields where it is of a kind, and the form of that kind
abbrev pub message_peer : Message → Option (Peer × (Peer × (ℕ × Body)))
message_peer (message_is.Peer from to shard b) = Some (from, (to, (shard, b)))
message_peer _ = None

abbrev pub as_peer : Form Message
as_peer = variant (λ p. message_is.Peer p.0 p.1.0 p.1.1.0 p.1.1.1) message_peer (pair peer (pair peer (pair number32 body)))

abbrev pub message_request : Message → Option (ℕ × (ℕ × (Bool × List ℕ)))
message_request (message_is.Request n shard w b) = Some (n, (shard, (w, b)))
message_request _ = None

abbrev pub as_request : Form Message
as_request = variant (λ p. message_is.Request p.0 p.1.0 p.1.1.0 p.1.1.1) message_request (pair number64 (pair number32 (pair bool octets)))

abbrev pub message_reply : Message → Option (ℕ × Outcome)
message_reply (message_is.Reply n o) = Some (n, o)
message_reply _ = None

abbrev pub as_reply : Form Message
as_reply = variant (λ p. message_is.Reply p.0 p.1) message_reply (pair number64 outcome)

abbrev pub message_swap : Message → Option (ℕ × (ℕ × (ℕ × ℕ)))
message_swap (message_is.Swap n shard a b) = Some (n, (shard, (a, b)))
message_swap _ = None

abbrev pub as_swap : Form Message
as_swap = variant (λ p. message_is.Swap p.0 p.1.0 p.1.1.0 p.1.1.1) message_swap (pair number64 (pair number32 (pair number32 number32)))

abbrev pub message_swap_reply : Message → Option (ℕ × SwapOutcome)
message_swap_reply (message_is.SwapReply n o) = Some (n, o)
message_swap_reply _ = None

abbrev pub as_swap_reply : Form Message
as_swap_reply = variant (λ p. message_is.SwapReply p.0 p.1) message_swap_reply (pair number64 swap_outcome)

-- a message
unfoldable pub message : Form Message
message = choice message_tag (as_peer ∷ as_request ∷ as_reply ∷ as_swap ∷ as_swap_reply ∷ [])
