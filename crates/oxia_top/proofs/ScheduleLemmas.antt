-- The runs of schedules: all their events are at the only node and shard, and they are legal.
use Rattle.std.proofs.Common.{◌≡◌, ◌∙◌, ℕ, ◌+◌, ◌<◌, ◌≤◌, true, ◌&&◌, eqb, leb, Bool, false, List, [], ◌∷◌, length, map, slice_get, Option, Some, None, Ok, arith, refl, sym, ap, subst}
use Rattle.std.specs.List.{list_all}
use Rattle.std.proofs.lemmas.Bool.{eqb-true, leb-true, and_parts}
use Rattle.ox_bytes.specs.Form.{Form, IsExact}
use Rattle.ox_bytes.specs.FieldLaws.{whole_again}
use Rattle.ox_bytes.specs.Texts.{placed, value_in}
use Rattle.ox_ops.specs.Forms.{command, query}
use Rattle.ox_machine.specs.Laws.{IsMachine}
use Rattle.ox_meaning.specs.Shard.{shard_meaning}
use Rattle.ox_schedule.specs.declared.schedule.Request.{Request}
use Rattle.ox_schedule.specs.declared.schedule.Request.TheVariants.{Write, Read}
use Rattle.ox_schedule.specs.Events.{Turn, Event}
use Rattle.ox_wire.specs.declared.event.Turn.TheVariants as turn
use Rattle.ox_wire.specs.declared.event.Event.TheVariants as event
use Rattle.ox_schedule.specs.declared.schedule.First.{First}
use Rattle.ox_schedule.specs.declared.schedule.First.TheVariants.{Solo}
use Rattle.ox_schedule.specs.Lawful.{is_encodable, turn_encodable, asks_encodable, turn_of_one_node, is_of_one_node, blocks_fit}
use Rattle.ox_wire.specs.declared.event.Request.{Request as Asked}
use Rattle.ox_solo_safety.specs.Moments.{turn_of as turn_in}
use Rattle.ox_solo_safety.specs.Asked.{IsLawful, AskLawfully}
use Rattle.ox_solo_safety.specs.Run.{IsTurn, IsOfOneNode, AreOfOneNode}
use Rattle.oxia_top.specs.Events.{request_of, event_of, turn_of}
use Rattle.oxia_top.specs.Report.{blocks_of}

turn_there : (t : Turn) → turn_of_one_node t ≡ true → IsTurn (turn_of t)
turn_there (turn.Client n s r) h = let b = and_parts (eqb n 1) (eqb s 0) h in (eqb-true n 1 b.0, eqb-true s 0 b.1)
turn_there (turn.Deliver k) h = tt
turn_there (turn.Tick n s ms) h = let b = and_parts (eqb n 1) (eqb s 0) h in (eqb-true n 1 b.0, eqb-true s 0 b.1)

pub event_there : (e : Event) → is_of_one_node e ≡ true → IsOfOneNode (event_of e)
event_there (event.Takes t) h = turn_there t h
event_there (event.Cut call i t) h = turn_there t (and_parts _ _ h).1
event_there (event.Stop n) h = eqb-true n 1 h
event_there (event.Start n) h = eqb-true n 1 h
event_there (event.Lose n) h = eqb-true n 1 h
event_there (event.Fence n s t) h = let b = and_parts (eqb n 1) (eqb s 0) (and_parts _ _ h).0 in (eqb-true n 1 b.0, eqb-true s 0 b.1)
event_there (event.Lead n s t) h = let b = and_parts (eqb n 1) (eqb s 0) (and_parts _ _ h).0 in (eqb-true n 1 b.0, eqb-true s 0 b.1)

pub all_there : (es : List Event) → list_all is_of_one_node es ≡ true → AreOfOneNode (map event_of es)
all_there [] h k e g = absurd cc
all_there (d ∷ es) h ℕ.zero e g = let is : event_of d ≡ e = cc in rw (← is) (event_there d (and_parts (is_of_one_node d) _ h).0)
all_there (d ∷ es) h (ℕ.suc k) e g = all_there es (and_parts (is_of_one_node d) _ h).1 k e g

-- ---- each request of a schedule is lawful

module _ (laws : IsMachine shard_meaning) where
  ok_is : {A : Type 0} (x y : A) → placed 0 (Ok x) ≡ placed 0 (Ok y) → x ≡ y
  ok_is x y h = cc

  -- a text that was written of a lawful value is read as that one
  read_again : {A : Type 0} (form : Form A) → IsExact form → (x y : A) → form.is_lawful x ≡ true → value_in form (form.text x) ≡ Ok y → form.is_lawful y ≡ true
  read_again {A} form exact x y h e =
      let again : value_in form (form.text x) ≡ Ok x = ap (placed (length (form.text x))) (whole_again form exact x h) in
      subst (λ (z : A). form.is_lawful z ≡ true) (ok_is x y (sym again ∙ e)) h

  request_lawful : (r : Request) → is_encodable r ≡ true → IsLawful shard_meaning (request_of r)
  request_lawful (Write g c) h = λ x e. read_again command laws.commands_exact c x h e
  request_lawful (Read q) h = λ x e. read_again query laws.queries_exact q x h e

  turn_lawful : (t : Turn) → turn_encodable t ≡ true → (node shard : ℕ) (q : Asked) → Some (turn_of t) ≡ Some (turn.Client node shard q) → IsLawful shard_meaning q
  turn_lawful (turn.Client n s r) h node shard q is = let same : request_of r ≡ q = cc in subst (IsLawful shard_meaning) same (request_lawful r h)
  turn_lawful (turn.Deliver k) h node shard q is = absurd cc
  turn_lawful (turn.Tick n s ms) h node shard q is = absurd cc

  event_lawful : (e : Event) → asks_encodable e ≡ true → (node shard : ℕ) (q : Asked) → turn_in (event_of e) ≡ Some (turn.Client node shard q) → IsLawful shard_meaning q
  event_lawful (event.Takes t) h node shard q is = turn_lawful t h node shard q is
  event_lawful (event.Cut call i t) h node shard q is = turn_lawful t h node shard q is
  event_lawful (event.Stop n) h node shard q is = absurd cc
  event_lawful (event.Start n) h node shard q is = absurd cc
  event_lawful (event.Lose n) h node shard q is = absurd cc
  event_lawful (event.Fence n s t) h node shard q is = absurd cc
  event_lawful (event.Lead n s t) h node shard q is = absurd cc

  pub all_lawful : (es : List Event) → list_all asks_encodable es ≡ true → AskLawfully shard_meaning (map event_of es)
  all_lawful [] h k node shard e q g is = absurd cc
  all_lawful (d ∷ es) h ℕ.zero node shard e q g is =
      let here : event_of d ≡ e = cc in
      event_lawful d (and_parts (asks_encodable d) (list_all asks_encodable es) h).0 node shard q (ap turn_in here ∙ is)
  all_lawful (d ∷ es) h (ℕ.suc k) node shard e q g is = all_lawful es (and_parts (asks_encodable d) (list_all asks_encodable es) h).1 k node shard e q g is

-- a replica has some blocks, and not more than there may be
pub blocks_within : (f : First) → blocks_fit f ≡ true → (1 ≤ blocks_of f) × (blocks_of f ≤ 65536)
blocks_within (Solo shards None) h = (omega arith, omega arith)
blocks_within (Solo shards (Some b)) h =
    let parts = and_parts (leb 8 b) (leb b 65536) h in
    (omega (arith, leb-true 8 b parts.0), leb-true b 65536 parts.1)
