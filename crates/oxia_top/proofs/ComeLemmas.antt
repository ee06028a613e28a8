-- A request that comes is the next arrival, and then a step.
use Rattle.std.proofs.Common.{◌≡◌, ℕ, ◌+◌, Bool, List, ◌++◌, Result, Ok, Err, IfOk}
use Rattle.ox_types.specs.declared.memory.NoMemory.{NoMemory}
use Rattle.ox_meaning.specs.Shard.{shard_meaning}
use Rattle.ox_solo_replica.specs.declared.input.Input.TheVariants.{Client}
use Rattle.ox_report.specs.Effect.{effect_line}
use Rattle.ox_wire.specs.declared.event.Request.{Request}
use Rattle.ox_wire.specs.Effects.{Arrival}
use Rattle.ox_solo_safety.specs.Run.{Knife, arrives, comes, node_takes}
use Rattle.oxia_top.specs.Running.{Running, Follows}
use Rattle.oxia_top.proofs.TextLemmas.{told_first}

pub come_follows : (old world : Running) (result : Result Running NoMemory) (s : ℕ) (q : Request) (k : Knife) (tag : ℕ) (write : Bool) (body : List ℕ) (text text1 text' : List ℕ)
    → world ≡ record old { world = arrives shard_meaning old.blocks old.world } → tag ≡ old.world.arrivals + 1
    → record { write = write; body = body } ≡ q → text1 ≡ text ++ effect_line (Arrival tag)
    → IfOk result (Follows world (node_takes shard_meaning world.blocks world.world s k (Client tag write body)) text1 text')
    → IfOk result (Follows old (comes shard_meaning old.blocks old.world s q k) text text')
come_follows old world (Ok new) s q k tag write body text text1 text' e_world e_tag e_q e_text f =
    let g = rw (e_world, e_tag) at f in
    let t = rw e_tag at e_text in
    rw (← e_q) (record { is = g.is; told = told_first text text1 text' (Arrival (old.world.arrivals + 1)) _ t g.told })
come_follows old world (Err e) s q k tag write body text text1 text' e_world e_tag e_q e_text f = tt
