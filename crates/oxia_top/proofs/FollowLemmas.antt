-- What is kept and told of a step is what a run's definition says.
use Rattle.std.proofs.Common.{◌≡◌, ◌∙◌, ℕ, Bool, true, false, List, [], ◌∷◌, ◌++◌, map, Result, Ok, Err, IfOk, OnOk, refl, ap, append-nil, nat_lt, if◌then◌else◌}
use Rattle.std.specs.List.{flat_map}
use Rattle.ox_types.specs.declared.durable.KeptAs.{KeptAs}
use Rattle.ox_types.specs.declared.log.Head.{Head}
use Rattle.ox_types.specs.declared.memory.NoMemory.{NoMemory}
use Rattle.ox_types.specs.Durable.{count_of}
use Rattle.ox_ops.specs.State.{ShardState}
use Rattle.ox_meaning.specs.Shard.{shard_meaning}
use Rattle.ox_solo_replica.specs.declared.input.Input.{Input}
use Rattle.ox_solo_replica.specs.declared.output.Cut.TheVariants.{Whole, Down}
use Rattle.ox_solo_replica.specs.declared.output.Output.{Output}
use Rattle.ox_solo_replica.specs.Step.{Stepped, output_of, replica_step}
use Rattle.ox_solo_replica.specs.Cutting.{calls_of, cut_step, stands_at}
use Rattle.ox_report.specs.Effect.{effect_line}
use Rattle.ox_wire.specs.declared.origin.Cause.{Cause}
use Rattle.ox_wire.specs.declared.event.Image.{Image}
use Rattle.ox_wire.specs.Events.{stands}
use Rattle.ox_wire.specs.Effects.{Effect as effect}
use Rattle.ox_wire.specs.Effects.{kept_effects}
use Rattle.ox_solo_safety.specs.Run.{Knife, cause_at, cuts, node_takes, origin_of, takes_whole}
use Rattle.ox_solo_safety.specs.Run.{Knife as knife}
use Rattle.ox_solo_safety.specs.declared.power.Power.TheVariants as power
use Rattle.oxia_top.specs.Node.{behind_cut, gone}
use Rattle.oxia_top.specs.Running.{Running, Follows, node_in, noted, settled, whole_seen, with_node}
use Rattle.oxia_top.proofs.CutLemmas.{IsDown, whole_by, down_by}
use Rattle.oxia_top.proofs.PlainLemmas.{step_appends, none_between}

-- the step of the only node
abbrev pub stepped : Running → Input → Stepped ShardState
stepped r i = replica_step shard_meaning 1 r.blocks r.world.replica i

settled_is : (r : Running) (i : Input) (s : ℕ) (k : Knife) (x : Cause)
    → settled (record r.world { replica = (stepped r i).state }) s x (count_of r.world.replica.disk) (output_of (stepped r i)) ≡ (takes_whole shard_meaning r.blocks r.world s k x (stepped r i)).world
settled_is r i s k x =
    ap (λ es. record (settled (record r.world { replica = (stepped r i).state }) s x (count_of r.world.replica.disk) (output_of (stepped r i))) { origins = r.world.origins ++ map (origin_of s x) es })
    (step_appends shard_meaning 1 r.blocks r.world.replica i)

-- a whole step that is settled
pub whole_follows : (old world new : Running) (i : Input) (s : ℕ) (k : Knife) (x : Cause) (from : ℕ) (output : Output) (text text' : List ℕ)
    → from ≡ count_of old.world.replica.disk → output ≡ output_of (stepped old i)
    → world ≡ record old { world = record old.world { replica = (stepped old i).state } }
    → new ≡ record world { world = settled world.world s x from output }
    → text' ≡ text ++ flat_map effect_line (whole_seen world.world s k output)
    → Follows old (takes_whole shard_meaning old.blocks old.world s k x (stepped old i)) text text' new
whole_follows old world new i s k x from output text text' e_from e_output e_world is told = record {
  is = (let h = rw (e_world, e_from, e_output) at is in h ∙ ap (λ w. record { blocks = old.blocks; world = w }) (settled_is old i s k x));
  told = (let h = rw (e_world, e_output) at told in h);
}

pub free_follows : (old world : Running) (result : Result Running NoMemory) (i : Input) (s : ℕ) (x : Cause) (from : ℕ) (output : Output) (text text' : List ℕ)
    → x ≡ cause_at old.world.replica i → from ≡ count_of old.world.replica.disk → output ≡ output_of (stepped old i)
    → world ≡ record old { world = record old.world { replica = (stepped old i).state } }
    → IfOk result (λ w. w ≡ record world { world = settled world.world s x from output })
    → OnOk result (text' ≡ text ++ flat_map effect_line (whole_seen world.world s knife.Free output))
    → IfOk result (Follows old (node_takes shard_meaning old.blocks old.world s knife.Free i) text text')
free_follows old world (Ok new) i s x from output text text' e_x e_from e_output e_world is told =
    rw (← e_x) (whole_follows old world new i s knife.Free x from output text text' e_from e_output e_world is told)
free_follows old world (Err e) i s x from output text text' e_x e_from e_output e_world is told = tt

-- ---- a step with a knife

-- it is whole where it makes fewer calls
pub cut_whole_follows : (old world new : Running) (i : Input) (s call : ℕ) (image : Image) (x : Cause) (from : ℕ) (output : Output) (text text' : List ℕ)
    → x ≡ cause_at old.world.replica i → from ≡ count_of old.world.replica.disk
    → cut_step old.world.replica.disk (stepped old i) call (stands image) ≡ Whole output
    → world ≡ record old { world = with_node old.world (behind_cut (node_in old) (stepped old i) call (stands image)) }
    → new ≡ record world { world = settled world.world s x from output }
    → text' ≡ text ++ flat_map effect_line (whole_seen world.world s (knife.At call image) output)
    → Follows old (node_takes shard_meaning old.blocks old.world s (knife.At call image) i) text text' new
cut_whole_follows old world new i s call image x from output text text' e_x e_from e_cut e_world is told =
    let w = whole_by old.world.replica.disk (stepped old i) (nat_lt (calls_of (stepped old i).kept) call) (stands_at call (stands image)) output e_cut in
    let here = rw w.0 at e_world in
    let whole = whole_follows old world new i s (knife.At call image) x from output text text' e_from w.1 here is told in
    rw (w.0, ← e_x) whole

-- the world that is left
abbrev left : Running → Stepped ShardState → Bool → Running
left old step s = record old { world = with_node old.world (gone (node_in old) power.Down (if s then step.state.disk else old.world.replica.disk)) }

down_follows : (old world new : Running) (i : Input) (s : ℕ) (b : Bool) (x : Cause) (from : ℕ) (kept : List KeptAs) (head : Head) (text text' : List ℕ)
    → from ≡ count_of old.world.replica.disk → IsDown old.world.replica.disk (stepped old i) b kept head
    → world ≡ left old (stepped old i) b
    → new ≡ record world { world = noted world.world s x from }
    → text' ≡ text ++ flat_map effect_line (kept_effects kept head ++ effect.WasCut ∷ [])
    → Follows old (cuts shard_meaning old.blocks old.world s x (stepped old i) b) text text' new
down_follows old world new i s true x from kept head text text' e_from d e_world is told = record {
  is = (let h = rw (e_world, e_from) at is in
      h ∙ ap (λ es. record old { world = record (left old (stepped old i) true).world { origins = old.world.origins ++ map (origin_of s x) es } }) (step_appends shard_meaning 1 old.blocks old.world.replica i));
  told = (let h = rw (d.kept_are, d.head_is) at told in h);
}
down_follows old world new i s false x from kept head text text' e_from d e_world is told = record {
  is = (let h = rw (e_world, e_from) at is in
      h ∙ ap (λ es. record old { world = record (left old (stepped old i) false).world { origins = old.world.origins ++ map (origin_of s x) es } }) (none_between old.world.replica.disk)
      ∙ ap (λ os. record old { world = record (left old (stepped old i) false).world { origins = os } }) (append-nil old.world.origins));
  told = (let h = rw d.kept_are at told in h);
}

left_is : (old : Running) (step : Stepped ShardState) (call : ℕ) (b s : Bool) → s ≡ stands_at call b → nat_lt (calls_of step.kept) call ≡ false
    → record old { world = with_node old.world (behind_cut (node_in old) step call b) } ≡ left old step s
left_is old step call b s e fewer = rw (e, fewer) refl

-- the node goes down inside the step
pub cut_down_follows : (old world new : Running) (i : Input) (s call : ℕ) (image : Image) (x : Cause) (from : ℕ) (kept : List KeptAs) (head : Head) (text text' : List ℕ)
    → x ≡ cause_at old.world.replica i → from ≡ count_of old.world.replica.disk
    → cut_step old.world.replica.disk (stepped old i) call (stands image) ≡ Down kept head
    → world ≡ record old { world = with_node old.world (behind_cut (node_in old) (stepped old i) call (stands image)) }
    → new ≡ record world { world = noted world.world s x from }
    → text' ≡ text ++ flat_map effect_line (kept_effects kept head ++ effect.WasCut ∷ [])
    → Follows old (node_takes shard_meaning old.blocks old.world s (knife.At call image) i) text text' new
cut_down_follows old world new i s call image x from kept head text text' e_x e_from e_cut e_world is told =
    let d = down_by old.world.replica.disk (stepped old i) (nat_lt (calls_of (stepped old i).kept) call) (stands_at call (stands image)) kept head e_cut in
    let here = e_world ∙ left_is old (stepped old i) call (stands image) (stands_at call (stands image)) refl d.0 in
    rw (d.0, ← e_x) (down_follows old world new i s (stands_at call (stands image)) x from kept head text text' e_from d.1 here is told)

pub cut_whole : (old world : Running) (result : Result Running NoMemory) (i : Input) (s call : ℕ) (image : Image) (x : Cause) (from : ℕ) (output : Output) (text text' : List ℕ)
    → x ≡ cause_at old.world.replica i → from ≡ count_of old.world.replica.disk
    → cut_step old.world.replica.disk (stepped old i) call (stands image) ≡ Whole output
    → world ≡ record old { world = with_node old.world (behind_cut (node_in old) (stepped old i) call (stands image)) }
    → IfOk result (λ w. w ≡ record world { world = settled world.world s x from output })
    → OnOk result (text' ≡ text ++ flat_map effect_line (whole_seen world.world s (knife.At call image) output))
    → IfOk result (Follows old (node_takes shard_meaning old.blocks old.world s (knife.At call image) i) text text')
cut_whole old world (Ok new) i s call image x from output text text' e_x e_from e_cut e_world is told =
    cut_whole_follows old world new i s call image x from output text text' e_x e_from e_cut e_world is told
cut_whole old world (Err e) i s call image x from output text text' e_x e_from e_cut e_world is told = tt

pub cut_down : (old world : Running) (result : Result Running NoMemory) (i : Input) (s call : ℕ) (image : Image) (x : Cause) (from : ℕ) (kept : List KeptAs) (head : Head) (text text' : List ℕ)
    → x ≡ cause_at old.world.replica i → from ≡ count_of old.world.replica.disk
    → cut_step old.world.replica.disk (stepped old i) call (stands image) ≡ Down kept head
    → world ≡ record old { world = with_node old.world (behind_cut (node_in old) (stepped old i) call (stands image)) }
    → IfOk result (λ w. w ≡ record world { world = noted world.world s x from })
    → OnOk result (text' ≡ text ++ flat_map effect_line (kept_effects kept head ++ effect.WasCut ∷ []))
    → IfOk result (Follows old (node_takes shard_meaning old.blocks old.world s (knife.At call image) i) text text')
cut_down old world (Ok new) i s call image x from kept head text text' e_x e_from e_cut e_world is told =
    cut_down_follows old world new i s call image x from kept head text text' e_x e_from e_cut e_world is told
cut_down old world (Err e) i s call image x from kept head text text' e_x e_from e_cut e_world is told = tt
