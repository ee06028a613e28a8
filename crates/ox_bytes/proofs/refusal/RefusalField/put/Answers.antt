use Rattle.std.proofs.Common.{◌≡◌, true, subst, append_assoc}
use Rattle.std.proofs.lemmas.Bool.{and_parts}
use Rattle.ox_bytes.specs.LogForms.{term, seat, refusal}
use Rattle.ox_bytes.proofs.refusal.RefusalField.put.Goals as goal

pub returns-in_ok-put-in-SeatTaken : goal.returns-in_ok-put-in-SeatTaken
unfolding refusal
returns-in_ok-put-in-SeatTaken c = rw (c.in-SeatTaken.is, c.in_ok-put-in-SeatTaken.ensures, c.in_ok-put_u64-in-SeatTaken.ensures.ok, c.in_ok-put_u8-in-SeatTaken.ensures.ok, c.term.view_is) (simp append_assoc)

pub put-requires : goal.put-requires
unfolding refusal
put-requires c = (and_parts (term.is_lawful c.in-SeatTaken.term) (seat.is_lawful c.in-SeatTaken.seat) (subst (λ x. refusal.is_lawful x ≡ true) c.in-SeatTaken.is c.requires)).1
