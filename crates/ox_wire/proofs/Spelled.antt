-- What spells a message is read as that message.
use Rattle.std.proofs.Common.{◌≡◌, ℕ, List, [], ◌++◌, Ok, sym, ap, ◌∙◌}
use Rattle.std.proofs.lemmas.List.{append-nil}
use Rattle.ox_bytes.specs.NumberLaws.{ok_is}
use Rattle.ox_wire.specs.declared.message.Message.{Message}
use Rattle.ox_wire.specs.MessageForms.{message}
use Rattle.ox_wire.specs.MessageLaws.{message_exact}
use Rattle.ox_wire.specs.Spells.{Spells}

-- its text is read at the front of whatever follows
read_at_front : (bytes rest : List ℕ) (m : Message) → Spells bytes m → message.at (bytes ++ rest) ≡ Ok (m, rest)
read_at_front bytes rest m s = ap (λ (l : List ℕ). message.at (l ++ rest)) s.is_text ∙ message_exact.again m rest s.lawful

pub begins_none : (bytes rest : List ℕ) (m n : Message) → Spells bytes m → Spells (bytes ++ rest) n → (m ≡ n) × (rest ≡ [])
begins_none bytes rest m n s t =
    let first = read_at_front bytes rest m s in
    let second = ap message.at (sym (append-nil (bytes ++ rest))) ∙ read_at_front (bytes ++ rest) [] n t in
    let same = ok_is (m, rest) (n, []) (sym first ∙ second) in
    (ap (λ (p : Message × List ℕ). p.0) same, ap (λ (p : Message × List ℕ). p.1) same)

pub one_message : (bytes : List ℕ) (m n : Message) → Spells bytes m → Spells bytes n → m ≡ n
one_message bytes m n s t =
    let first = read_at_front bytes [] m s in
    let second = read_at_front bytes [] n t in
    ap (λ (p : Message × List ℕ). p.0) (ok_is (m, []) (n, []) (sym first ∙ second))

pub one_text : (bytes other : List ℕ) (m : Message) → Spells bytes m → Spells other m → bytes ≡ other
one_text bytes other m s t = s.is_text ∙ sym t.is_text
