-- Every run of a node that is alone, over shards, is legal.
use Rattle.std.proofs.Common.{◌≡◌, ℕ, zero, suc, ◌<◌, List, [], ◌∷◌, length, map, slice_get, Some, ap, subst, arith}
use Rattle.std.specs.Prelude.{All, slice_index_or}
use Rattle.std.proofs.lemmas.List.Elements.{All-map}
use Rattle.std.proofs.Math.Seq.{take-length}
use Rattle.ox_types.specs.declared.timer.Timer.{Timer}
use Rattle.ox_machine.specs.Meaning.{Meaning}
use Rattle.ox_machine.specs.Laws.{IsMachine}
use Rattle.ox_ops.specs.State.{timer_of}
use Rattle.ox_meaning.specs.Shard.{shard_meaning}
use Rattle.ox_wire.specs.Events.{RunEvent as Event}
use Rattle.ox_solo_safety.specs.World.{World, opening_world}
use Rattle.ox_solo_safety.specs.Run.{AreOfOneNode, world_after}
use Rattle.ox_solo_safety.specs.Moments.{world_at}
use Rattle.ox_wire.specs.Origins.{AreInStep}
use Rattle.ox_solo_safety.specs.Asked.{AskLawfully}
use Rattle.ox_solo_safety.specs.Legal.{EntriesHaveCauses, ReadsMatch, IsLegal}
use Rattle.ox_solo_safety.specs.Shard.{shard_noticing}
use Rattle.ox_solo_safety.proofs.ListLemmas.{get_within}
use Rattle.ox_solo_safety.proofs.FitLemmas.{IdsAreSmall}
use Rattle.ox_solo_safety.proofs.MomentLemmas.{one_request}
use Rattle.ox_solo_safety.proofs.LegalLemmas.{answers_have_requests, acknowledged, replies_match, reads_match, refusals_are_true, replicas_agree}
use Rattle.ox_solo_safety.proofs.CauseLemmas.{entries_have_causes, history_in_step}
use Rattle.ox_solo_safety.proofs.SeatLemmas.{timer_facts}
use Rattle.ox_solo_safety.proofs.NoticeLemmas.{notices_complete}

-- the sessions of a shard have the offsets of their entries as ids
ids_are_small : IdsAreSmall shard_meaning
ids_are_small count s t few fits has =
    let below : All (λ (u : Timer). u.id < count) (map timer_of s.sessions) = All-map (λ (u : Timer). u.id < count) timer_of s.sessions fits.opened in
    let here : t.id < count = subst (λ (u : Timer). u.id < count) (get_is (map timer_of s.sessions) has.0 t has.1) (below has.0 t (get_within (map timer_of s.sessions) t has.0 has.1)) in
    omega (arith, here, few)
  where
    get_is : (ts : List Timer) (i : ℕ) (u : Timer) → slice_get ts i ≡ Some u → slice_index_or ts i u ≡ u
    get_is [] i u h = absurd cc
    get_is (x ∷ ts) zero u h = cc
    get_is (x ∷ ts) (suc i) u h = get_is ts i u h

pub every_run_is_legal : IsMachine shard_meaning → (blocks : ℕ) (es : List Event) → AreOfOneNode es → AskLawfully shard_meaning es → IsLegal shard_meaning blocks es shard_noticing
every_run_is_legal laws blocks es only lawful =
    let reads : ReadsMatch shard_meaning blocks es = reads_match shard_meaning blocks es only laws ids_are_small lawful in
    let causes : EntriesHaveCauses shard_meaning blocks es = entries_have_causes shard_meaning blocks es only (timer_facts shard_meaning blocks es only) in
    record {
      asked = answers_have_requests shard_meaning blocks es only;
      acknowledged = acknowledged shard_meaning blocks es only;
      replies = replies_match shard_meaning blocks es only laws ids_are_small lawful;
      causes = causes;
      reads = reads;
      refusals = refusals_are_true shard_meaning blocks es only;
      replicas = replicas_agree shard_meaning blocks es only;
      notices = notices_complete blocks es reads (one_request shard_meaning blocks es only) causes.in_place;
    }

module _ {S C R Q A : Type 0} (M : Meaning S C R Q A) (blocks : ℕ) (es : List Event) where
  at_last : world_at M blocks es (length es) ≡ world_after M blocks (opening_world M) es
  unfolding world_at
  at_last = ap (world_after M blocks (opening_world M)) (take-length es)

  pub every_run_is_in_step : AreOfOneNode es → AreInStep (world_after M blocks (opening_world M) es).history (world_after M blocks (opening_world M) es).origins
  every_run_is_in_step only = subst (λ (w : World S). AreInStep w.history w.origins) at_last (history_in_step M blocks es only (length es))
