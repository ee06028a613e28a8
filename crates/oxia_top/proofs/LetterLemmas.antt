-- Letters and the messages that they are.
use Rattle.std.proofs.Common.{◌≡◌, ◌∙◌, ℕ, ◌+◌, ◌-◌, ◌==◌, Bool, true, false, List, [], ◌∷◌, ◌++◌, length, slice_get, Option, Some, None, option_map, refl, sym, ap, arith, All, append_assoc, append-nil, length-append, if◌then◌else◌}
use Rattle.std.specs.List.{flat_map}
use Rattle.std.proofs.lemmas.List.{length-map}
use Rattle.std.proofs.lemmas.Option.{slice_get-map}
use Rattle.std.specs.List.Sorted.{IsPermutation}
use Rattle.std.proofs.lemmas.List.Elements.{All-head, All-cons}
use Rattle.std.proofs.lemmas.List.Sorted.{length_permutation, All-permutation}
use Rattle.ox_solo_replica.specs.declared.output.Outgoing.{Outgoing}
use Rattle.ox_report.specs.Effect.{effect_line}
use Rattle.ox_types.specs.declared.peer.Peer.TheVariants.{Node}
use Rattle.ox_wire.specs.Effects.{Sent}
use Rattle.ox_solo_safety.specs.World.{Message}
use Rattle.ox_solo_safety.specs.Run.{message_at, messages_of, sent_effects}
use Rattle.oxia_top.specs.declared.letter.Letter.{Letter}
use Rattle.oxia_top.specs.declared.letter.Letter.TheVariants as letter
use Rattle.oxia_top.specs.Letters.{Finds, found_as, letter_at, message_of, messages_in}

finds_letter : (l : Option Letter) → Finds (option_map message_of l) (found_as l)
finds_letter None = refl
finds_letter (Some (letter.NewTerm shard term)) = refl
finds_letter (Some (letter.BecomeLeader shard term)) = refl
finds_letter (Some (letter.ToCoordinator to shard b)) = (message_of (letter.ToCoordinator to shard b), to, refl, refl)

message_is : (letters : List Letter) (k : ℕ) (b : Bool) → (if b then None else slice_get (messages_in letters) (k - 1)) ≡ option_map message_of (if b then None else slice_get letters (k - 1))
message_is letters k true = refl
message_is letters k false = slice_get-map message_of letters (k - 1)

-- what is found among the letters is what a delivery needs
pub finds : (letters : List Letter) (k : ℕ) → Finds (message_at (messages_in letters) k) (found_as (letter_at letters k))
finds letters k = rw (message_is letters k (k == 0)) (finds_letter (letter_at letters k))

-- one more message was sent and told
pub record Sending (s : ℕ) (rest : List Outgoing) (text : List ℕ) (letters : List Letter) (all : List ℕ) (whole : List Message) : Type 0 where
  pub told : text ++ flat_map effect_line (sent_effects (length letters + 1) s rest) ≡ all
  pub kept : messages_in letters ++ messages_of s rest ≡ whole

pub sending_first : (s : ℕ) (sends rest : List Outgoing) (text : List ℕ) (letters : List Letter) → rest ≡ sends
    → Sending s rest text letters (text ++ flat_map effect_line (sent_effects (length letters + 1) s sends)) (messages_in letters ++ messages_of s sends)
sending_first s sends rest text letters e = rw e (record { told = refl; kept = refl })

longer : (letters letters' : List Letter) (m : Message) → messages_in letters' ≡ messages_in letters ++ m ∷ [] → length letters' ≡ length letters + 1
longer letters letters' m e = sym (length-map letters' message_of) ∙ ap length e ∙ length-append (messages_in letters) (m ∷ []) ∙ ap (λ n. n + 1) (length-map letters message_of)

pub sending_next : (s : ℕ) (rest rest' : List Outgoing) (o : Outgoing) (text text' : List ℕ) (letters letters' : List Letter) (all : List ℕ) (whole : List Message)
    → Sending s rest text letters all whole → rest ≡ o ∷ rest'
    → text' ≡ text ++ flat_map effect_line (sent_effects (length letters + 1) s (o ∷ [])) → messages_in letters' ≡ messages_in letters ++ messages_of s (o ∷ [])
    → Sending s rest' text' letters' all whole
sending_next s rest rest' o text text' letters letters' all whole before here told kept =
    let b : Sending s (o ∷ rest') text letters all whole = rw (← here) before in
    let more : length letters' ≡ length letters + 1 = longer letters letters' _ kept in
    let one : List ℕ = effect_line (Sent (length letters + 1) (Node 1) o.to s o.body) in
    let behind : List ℕ = flat_map effect_line (sent_effects (length letters + 1 + 1) s rest') in
    record {
      told =
          rw more
          (ap (λ (t : List ℕ). t ++ behind) (told ∙ ap (λ (t : List ℕ). text ++ t) (append-nil one)) ∙ append_assoc text one behind ∙ b.told);
      kept = ap (λ ms. ms ++ messages_of s rest') kept ∙ append_assoc (messages_in letters) (messages_of s (o ∷ [])) (messages_of s rest') ∙ b.kept;
    }

pub sending_last : (s : ℕ) (rest : List Outgoing) (text : List ℕ) (letters : List Letter) (all : List ℕ) (whole : List Message)
    → Sending s rest text letters all whole → rest ≡ [] → (text ≡ all) × (messages_in letters ≡ whole)
sending_last s rest text letters all whole b none =
    let l : Sending s [] text letters all whole = rw (← none) b in
    (sym (append-nil text) ∙ l.told, sym (append-nil (messages_in letters)) ∙ l.kept)

-- an ensemble of node 1 alone
alone_by : (ys : List ℕ) → length ys ≡ 1 → All (λ n. n ≡ 1) ys → ys ≡ 1 ∷ []
alone_by [] n all = absurd cc
alone_by (y ∷ []) n all = ap (λ m. m ∷ []) (All-head (λ n. n ≡ 1) y [] all)
alone_by (y ∷ z ∷ ys) n all = absurd (omega (arith, n))

pub alone : (xs ys : List ℕ) → xs ≡ 1 ∷ [] → IsPermutation xs ys → ys ≡ 1 ∷ []
alone xs ys is moved =
    let here : IsPermutation (1 ∷ []) ys = rw (← is) moved in
    alone_by ys (length_permutation (1 ∷ []) ys here) (All-permutation (λ n. n ≡ 1) (1 ∷ []) ys here (All-cons (λ n. n ≡ 1) 1 [] refl (λ k d b. absurd (omega (arith, b)))))

pub none_left : {A : Type 0} (xs : List A) → length xs ≡ 0 → xs ≡ []
none_left [] h = refl
none_left (x ∷ xs) h = absurd (omega (arith, h))
