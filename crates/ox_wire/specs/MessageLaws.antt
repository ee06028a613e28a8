-- The forms of messages are exact.
use Rattle.std.proofs.Common.{◌≡◌, ℕ, Bool, List, Some, refl, sym, ap}
use Rattle.std.proofs.lemmas.Option.{same_Some}
use Rattle.ox_types.specs.declared.peer.Peer.{Peer}
use Rattle.ox_types.specs.declared.refusal.Refusal.{Refusal}
use Rattle.ox_bytes.specs.Form.{IsExact, pair, empty}
use Rattle.ox_bytes.specs.FormLaws.{pair_exact, empty_exact, is_variant}
use Rattle.ox_bytes.specs.Fields.{number32, number64, bool, octets}
use Rattle.ox_bytes.specs.FieldLaws.{bool_exact, octets_exact, choice_exact}
use Rattle.ox_bytes.specs.NumberLaws.{number32_exact, number64_exact}
use Rattle.ox_bytes.specs.LogForms.{term, count, entry_offset, peer, refusal}
use Rattle.ox_bytes.specs.LogLaws.{term_exact, count_exact, entry_offset_exact, peer_exact, refusal_exact}
use Rattle.ox_wire.specs.declared.body.Body.{Body}
use Rattle.ox_wire.specs.declared.message.Outcome.{Outcome}
use Rattle.ox_wire.specs.declared.message.Outcome.TheVariants as outcome_is
use Rattle.ox_wire.specs.declared.message.Message.{Message}
use Rattle.ox_wire.specs.declared.message.Message.TheVariants as message_is
use Rattle.ox_wire.specs.declared.swap.SwapRefused.{SwapRefused}
use Rattle.ox_wire.specs.declared.swap.SwapRefused.TheVariants as refused_is
use Rattle.ox_wire.specs.declared.swap.SwapOutcome.{SwapOutcome}
use Rattle.ox_wire.specs.declared.swap.SwapOutcome.TheVariants as swap_is
use Rattle.ox_wire.specs.BodyForms.{body}
use Rattle.ox_wire.specs.BodyLaws.{body_exact}
use Rattle.ox_wire.specs.MessageForms.{outcome_tag, outcome_ack, outcome_read, outcome_refused, outcome, swap_refused_tag, swap_refused_unknown_shard, swap_refused_in_progress, swap_refused_not_member, swap_refused_unknown_node, swap_refused_already_member, swap_refused_terms_spent, swap_refused, swap_outcome_tag, swap_outcome_begun, swap_outcome_refused, swap_outcome, message_tag, message_peer, message_request, message_reply, message_swap, message_swap_reply, message}

outcome_ack_there : (x : Outcome) (got : ℕ × (ℕ × List ℕ)) → outcome_ack x ≡ Some got → outcome_is.Ack got.0 got.1.0 got.1.1 ≡ x
outcome_ack_there (outcome_is.Ack t o r) got e = sym (ap (λ (p : ℕ × (ℕ × List ℕ)). outcome_is.Ack p.0 p.1.0 p.1.1) (same_Some (t, (o, r)) got e))
outcome_ack_there _ got e = absurd cc

outcome_read_there : (x : Outcome) (got : ℕ × (ℕ × List ℕ)) → outcome_read x ≡ Some got → outcome_is.Read got.0 got.1.0 got.1.1 ≡ x
outcome_read_there (outcome_is.Read t n a) got e = sym (ap (λ (p : ℕ × (ℕ × List ℕ)). outcome_is.Read p.0 p.1.0 p.1.1) (same_Some (t, (n, a)) got e))
outcome_read_there _ got e = absurd cc

outcome_refused_there : (x : Outcome) (got : Refusal) → outcome_refused x ≡ Some got → outcome_is.Refused got ≡ x
outcome_refused_there (outcome_is.Refused r) got e = cc
outcome_refused_there _ got e = absurd cc

pub outcome_exact : IsExact outcome
unfolding outcome
outcome_exact = choice_exact outcome_tag _ (
  is_variant outcome_tag 0 (λ p. outcome_is.Ack p.0 p.1.0 p.1.1) outcome_ack (pair term (pair entry_offset octets)) outcome_ack_there (λ a. refl) (λ a. refl) (pair_exact term (pair entry_offset octets) term_exact (pair_exact entry_offset octets entry_offset_exact octets_exact)),
  (
    is_variant outcome_tag 1 (λ p. outcome_is.Read p.0 p.1.0 p.1.1) outcome_read (pair term (pair count octets)) outcome_read_there (λ a. refl) (λ a. refl) (pair_exact term (pair count octets) term_exact (pair_exact count octets count_exact octets_exact)),
    (
      is_variant outcome_tag 2 (λ p. outcome_is.Refused p) outcome_refused refusal outcome_refused_there (λ a. refl) (λ a. refl) refusal_exact,
      tt,
    ),
  ),
)

swap_refused_unknown_shard_there : (x : SwapRefused) (got : Unit {0}) → swap_refused_unknown_shard x ≡ Some got → refused_is.UnknownShard ≡ x
swap_refused_unknown_shard_there refused_is.UnknownShard got e = refl
swap_refused_unknown_shard_there _ got e = absurd cc

swap_refused_in_progress_there : (x : SwapRefused) (got : ℕ) → swap_refused_in_progress x ≡ Some got → refused_is.InProgress got ≡ x
swap_refused_in_progress_there (refused_is.InProgress t) got e = cc
swap_refused_in_progress_there _ got e = absurd cc

swap_refused_not_member_there : (x : SwapRefused) (got : ℕ) → swap_refused_not_member x ≡ Some got → refused_is.NotMember got ≡ x
swap_refused_not_member_there (refused_is.NotMember n) got e = cc
swap_refused_not_member_there _ got e = absurd cc

swap_refused_unknown_node_there : (x : SwapRefused) (got : ℕ) → swap_refused_unknown_node x ≡ Some got → refused_is.UnknownNode got ≡ x
swap_refused_unknown_node_there (refused_is.UnknownNode n) got e = cc
swap_refused_unknown_node_there _ got e = absurd cc

swap_refused_already_member_there : (x : SwapRefused) (got : ℕ) → swap_refused_already_member x ≡ Some got → refused_is.AlreadyMember got ≡ x
swap_refused_already_member_there (refused_is.AlreadyMember n) got e = cc
swap_refused_already_member_there _ got e = absurd cc

swap_refused_terms_spent_there : (x : SwapRefused) (got : ℕ × ℕ) → swap_refused_terms_spent x ≡ Some got → refused_is.TermsSpent got.0 got.1 ≡ x
swap_refused_terms_spent_there (refused_is.TermsSpent t v) got e = sym (ap (λ (p : ℕ × ℕ). refused_is.TermsSpent p.0 p.1) (same_Some (t, v) got e))
swap_refused_terms_spent_there _ got e = absurd cc

pub swap_refused_exact : IsExact swap_refused
unfolding swap_refused
swap_refused_exact = choice_exact swap_refused_tag _ (
  is_variant swap_refused_tag 0 (λ _. refused_is.UnknownShard) swap_refused_unknown_shard empty swap_refused_unknown_shard_there (λ a. refl) (λ a. refl) empty_exact,
  (
    is_variant swap_refused_tag 1 (λ p. refused_is.InProgress p) swap_refused_in_progress term swap_refused_in_progress_there (λ a. refl) (λ a. refl) term_exact,
    (
      is_variant swap_refused_tag 2 (λ p. refused_is.NotMember p) swap_refused_not_member number32 swap_refused_not_member_there (λ a. refl) (λ a. refl) number32_exact,
      (
        is_variant swap_refused_tag 3 (λ p. refused_is.UnknownNode p) swap_refused_unknown_node number32 swap_refused_unknown_node_there (λ a. refl) (λ a. refl) number32_exact,
        (
          is_variant swap_refused_tag 4 (λ p. refused_is.AlreadyMember p) swap_refused_already_member number32 swap_refused_already_member_there (λ a. refl) (λ a. refl) number32_exact,
          (
            is_variant swap_refused_tag 5 (λ p. refused_is.TermsSpent p.0 p.1) swap_refused_terms_spent (pair term number64) swap_refused_terms_spent_there (λ a. refl) (λ a. refl) (pair_exact term number64 term_exact number64_exact),
            tt,
          ),
        ),
      ),
    ),
  ),
)

swap_outcome_begun_there : (x : SwapOutcome) (got : ℕ) → swap_outcome_begun x ≡ Some got → swap_is.Begun got ≡ x
swap_outcome_begun_there (swap_is.Begun t) got e = cc
swap_outcome_begun_there _ got e = absurd cc

swap_outcome_refused_there : (x : SwapOutcome) (got : SwapRefused) → swap_outcome_refused x ≡ Some got → swap_is.Refused got ≡ x
swap_outcome_refused_there (swap_is.Refused r) got e = cc
swap_outcome_refused_there _ got e = absurd cc

pub swap_outcome_exact : IsExact swap_outcome
unfolding swap_outcome
swap_outcome_exact = choice_exact swap_outcome_tag _ (
  is_variant swap_outcome_tag 0 (λ p. swap_is.Begun p) swap_outcome_begun term swap_outcome_begun_there (λ a. refl) (λ a. refl) term_exact,
  (
    is_variant swap_outcome_tag 1 (λ p. swap_is.Refused p) swap_outcome_refused swap_refused swap_outcome_refused_there (λ a. refl) (λ a. refl) swap_refused_exact,
    tt,
  ),
)

message_peer_there : (x : Message) (got : Peer × (Peer × (ℕ × Body))) → message_peer x ≡ Some got → message_is.Peer got.0 got.1.0 got.1.1.0 got.1.1.1 ≡ x
message_peer_there (message_is.Peer from to shard b) got e = sym (ap (λ (p : Peer × (Peer × (ℕ × Body))). message_is.Peer p.0 p.1.0 p.1.1.0 p.1.1.1) (same_Some (from, (to, (shard, b))) got e))
message_peer_there _ got e = absurd cc

message_request_there : (x : Message) (got : ℕ × (ℕ × (Bool × List ℕ))) → message_request x ≡ Some got → message_is.Request got.0 got.1.0 got.1.1.0 got.1.1.1 ≡ x
message_request_there (message_is.Request n shard w b) got e = sym (ap (λ (p : ℕ × (ℕ × (Bool × List ℕ))). message_is.Request p.0 p.1.0 p.1.1.0 p.1.1.1) (same_Some (n, (shard, (w, b))) got e))
message_request_there _ got e = absurd cc

message_reply_there : (x : Message) (got : ℕ × Outcome) → message_reply x ≡ Some got → message_is.Reply got.0 got.1 ≡ x
message_reply_there (message_is.Reply n o) got e = sym (ap (λ (p : ℕ × Outcome). message_is.Reply p.0 p.1) (same_Some (n, o) got e))
message_reply_there _ got e = absurd cc

message_swap_there : (x : Message) (got : ℕ × (ℕ × (ℕ × ℕ))) → message_swap x ≡ Some got → message_is.Swap got.0 got.1.0 got.1.1.0 got.1.1.1 ≡ x
message_swap_there (message_is.Swap n shard a b) got e = sym (ap (λ (p : ℕ × (ℕ × (ℕ × ℕ))). message_is.Swap p.0 p.1.0 p.1.1.0 p.1.1.1) (same_Some (n, (shard, (a, b))) got e))
message_swap_there _ got e = absurd cc

message_swap_reply_there : (x : Message) (got : ℕ × SwapOutcome) → message_swap_reply x ≡ Some got → message_is.SwapReply got.0 got.1 ≡ x
message_swap_reply_there (message_is.SwapReply n o) got e = sym (ap (λ (p : ℕ × SwapOutcome). message_is.SwapReply p.0 p.1) (same_Some (n, o) got e))
message_swap_reply_there _ got e = absurd cc

pub message_exact : IsExact message
unfolding message
message_exact = choice_exact message_tag _ (
  is_variant message_tag 0 (λ p. message_is.Peer p.0 p.1.0 p.1.1.0 p.1.1.1) message_peer (pair peer (pair peer (pair number32 body))) message_peer_there (λ a. refl) (λ a. refl) (pair_exact peer (pair peer (pair number32 body)) peer_exact (pair_exact peer (pair number32 body) peer_exact (pair_exact number32 body number32_exact body_exact))),
  (
    is_variant message_tag 1 (λ p. message_is.Request p.0 p.1.0 p.1.1.0 p.1.1.1) message_request (pair number64 (pair number32 (pair bool octets))) message_request_there (λ a. refl) (λ a. refl) (pair_exact number64 (pair number32 (pair bool octets)) number64_exact (pair_exact number32 (pair bool octets) number32_exact (pair_exact bool octets bool_exact octets_exact))),
    (
      is_variant message_tag 2 (λ p. message_is.Reply p.0 p.1) message_reply (pair number64 outcome) message_reply_there (λ a. refl) (λ a. refl) (pair_exact number64 outcome number64_exact outcome_exact),
      (
        is_variant message_tag 3 (λ p. message_is.Swap p.0 p.1.0 p.1.1.0 p.1.1.1) message_swap (pair number64 (pair number32 (pair number32 number32))) message_swap_there (λ a. refl) (λ a. refl) (pair_exact number64 (pair number32 (pair number32 number32)) number64_exact (pair_exact number32 (pair number32 number32) number32_exact (pair_exact number32 number32 number32_exact number32_exact))),
        (
          is_variant message_tag 4 (λ p. message_is.SwapReply p.0 p.1) message_swap_reply (pair number64 swap_outcome) message_swap_reply_there (λ a. refl) (λ a. refl) (pair_exact number64 swap_outcome number64_exact swap_outcome_exact),
          tt,
        ),
      ),
    ),
  ),
)
