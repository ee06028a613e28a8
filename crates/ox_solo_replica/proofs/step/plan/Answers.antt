use Rattle.std.proofs.Common.{◌≡◌, subst}
use Rattle.std.proofs.lemmas.Result.{IfOk-weaker}
use Rattle.std.specs.Prelude.{IfOk}
use Rattle.ox_types.specs.declared.durable.LogView.{LogView}
use Rattle.ox_types.specs.Durable.{table_of}
use Rattle.ox_wal.specs.State.{state_of}
use Rattle.ox_solo_replica.specs.declared.plan.Plan.{Plan}
use Rattle.ox_solo_replica.specs.Inputs.{IsInput}
use Rattle.ox_solo_replica.specs.Keeping.{IsKeepable, IsSmall}
use Rattle.ox_solo_replica.specs.Plans.{planned}
use Rattle.ox_solo_replica.specs.Sound.{IsSound}
use Rattle.ox_solo_replica.specs.State.{folded_all, view_at}
use Rattle.ox_solo_replica.specs.Step.{from_peer, from_client}
use Rattle.ox_solo_replica.specs.Tick.{tick, time_at}
use Rattle.ox_solo_replica.proofs.Planning.{plan_keepable, plan_sound, later_sound, if_both, small_row}
use Rattle.ox_solo_replica.proofs.Rows.{peer_fine, client_fine, ticks_fine}
use Rattle.ox_solo_replica.proofs.step.plan.Goals as goal

pub returns-in-Peer-clause-keepable : goal.returns-in-Peer-clause-keepable
returns-in-Peer-clause-keepable g c =
    let M = g.M.Machine.meaning in
    let d = state_of c.args.wal.now.log in
    let live = c.args.live.now in
    let sound = c.requires.sound in
    let all = c.args.wal.now.blocks in
    IfOk-weaker c.plan_peer.result
    (λ (p : Plan). planned p c.plan_peer.new.live ≡ from_peer c.args.me (view_at all d live.commit) (table_of d) live c.in-Peer.from c.in-Peer.body)
    (λ (p : Plan). IsKeepable all d p.batch.items)
    (λ p is. plan_keepable M all d live sound p c.plan_peer.new.live _ is (peer_fine all d live sound.small_count sound.now c.args.me (table_of d) c.in-Peer.from c.in-Peer.body (subst (λ i. IsInput i) c.in-Peer.is c.requires.input)))
    c.plan_peer.ensures.row

pub returns-in-Peer-clause-sound : goal.returns-in-Peer-clause-sound
returns-in-Peer-clause-sound g c =
    let M = g.M.Machine.meaning in
    let d = state_of c.args.wal.now.log in
    let live = c.args.live.now in
    let sound = c.requires.sound in
    let all = c.args.wal.now.blocks in
    IfOk-weaker c.plan_peer.result
    (λ (p : Plan). planned p c.plan_peer.new.live ≡ from_peer c.args.me (view_at all d live.commit) (table_of d) live c.in-Peer.from c.in-Peer.body)
    (λ (p : Plan). IsSound M (folded_all d p.batch.items) c.plan_peer.new.live)
    (λ p is. plan_sound M all d live sound p c.plan_peer.new.live _ is (peer_fine all d live sound.small_count sound.now c.args.me (table_of d) c.in-Peer.from c.in-Peer.body (subst (λ i. IsInput i) c.in-Peer.is c.requires.input)))
    c.plan_peer.ensures.row

pub returns-in-Client-clause-keepable : goal.returns-in-Client-clause-keepable
returns-in-Client-clause-keepable g c =
    let M = g.M.Machine.meaning in
    let d = state_of c.args.wal.now.log in
    let live = c.args.live.now in
    let sound = c.requires.sound in
    let all = c.args.wal.now.blocks in
    let row = from_client M (view_at all d live.commit) live c.in-Client.tag c.in-Client.write c.in-Client.body in
    if_both c.plan_client.result
    (λ (p : Plan). planned p c.plan_client.new.live ≡ row)
    (λ (p : Plan). IsSmall p.batch.items)
    (λ (p : Plan). IsKeepable all d p.batch.items)
    (λ p is small. plan_keepable M all d live sound p c.plan_client.new.live row is (client_fine all d live sound.small_count sound.now M c.in-Client.tag c.in-Client.write c.in-Client.body (small_row p c.plan_client.new.live row is small)))
    (rw c.view_at-view.ensures at c.plan_client.ensures.row) c.plan_client.ensures.small

pub returns-in-Client-clause-sound : goal.returns-in-Client-clause-sound
returns-in-Client-clause-sound g c =
    let M = g.M.Machine.meaning in
    let d = state_of c.args.wal.now.log in
    let live = c.args.live.now in
    let sound = c.requires.sound in
    let all = c.args.wal.now.blocks in
    let row = from_client M (view_at all d live.commit) live c.in-Client.tag c.in-Client.write c.in-Client.body in
    if_both c.plan_client.result
    (λ (p : Plan). planned p c.plan_client.new.live ≡ row)
    (λ (p : Plan). IsSmall p.batch.items)
    (λ (p : Plan). IsSound M (folded_all d p.batch.items) c.plan_client.new.live)
    (λ p is small. plan_sound M all d live sound p c.plan_client.new.live row is (client_fine all d live sound.small_count sound.now M c.in-Client.tag c.in-Client.write c.in-Client.body (small_row p c.plan_client.new.live row is small)))
    (rw c.view_at-view.ensures at c.plan_client.ensures.row) c.plan_client.ensures.small

pub returns-in-Tick-clause-keepable : goal.returns-in-Tick-clause-keepable
returns-in-Tick-clause-keepable g c =
    let M = g.M.Machine.meaning in
    let d = state_of c.args.wal.now.log in
    let live = c.args.live.now in
    let sound = c.requires.sound in
    let all = c.args.wal.now.blocks in
    let later = time_at live c.in-Tick.ms in
    let sounds = later_sound M all d live sound c.in-Tick.ms in
    let row = tick M (view_at all d live.commit) live c.in-Tick.ms in
    if_both c.tick.result
    (λ (p : Plan). planned p c.tick.new.live ≡ row)
    (λ (p : Plan). IsSmall p.batch.items)
    (λ (p : Plan). IsKeepable all d p.batch.items)
    (λ p is small. plan_keepable M all d later sounds p c.tick.new.live row is (ticks_fine all d later sounds.small_count sounds.now M later.leading (small_row p c.tick.new.live row is small)))
    (subst (λ (v : LogView). IfOk c.tick.result (λ (p : Plan). planned p c.tick.new.live ≡ tick M v live c.in-Tick.ms)) c.view_at-view-in-Tick.ensures c.tick.ensures.row) c.tick.ensures.small

pub returns-in-Tick-clause-sound : goal.returns-in-Tick-clause-sound
returns-in-Tick-clause-sound g c =
    let M = g.M.Machine.meaning in
    let d = state_of c.args.wal.now.log in
    let live = c.args.live.now in
    let sound = c.requires.sound in
    let all = c.args.wal.now.blocks in
    let later = time_at live c.in-Tick.ms in
    let sounds = later_sound M all d live sound c.in-Tick.ms in
    let row = tick M (view_at all d live.commit) live c.in-Tick.ms in
    if_both c.tick.result
    (λ (p : Plan). planned p c.tick.new.live ≡ row)
    (λ (p : Plan). IsSmall p.batch.items)
    (λ (p : Plan). IsSound M (folded_all d p.batch.items) c.tick.new.live)
    (λ p is small. plan_sound M all d later sounds p c.tick.new.live row is (ticks_fine all d later sounds.small_count sounds.now M later.leading (small_row p c.tick.new.live row is small)))
    (subst (λ (v : LogView). IfOk c.tick.result (λ (p : Plan). planned p c.tick.new.live ≡ tick M v live c.in-Tick.ms)) c.view_at-view-in-Tick.ensures c.tick.ensures.row) c.tick.ensures.small
