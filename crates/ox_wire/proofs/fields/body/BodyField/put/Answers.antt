use Rattle.std.proofs.Common.{◌≡◌, true, subst}
use Rattle.ox_wire.specs.BodyForms.{body}
use Rattle.ox_wire.proofs.fields.body.BodyField.put.Goals as goal

pub put_become_leader-requires : goal.put_become_leader-requires
put_become_leader-requires c = subst (λ x. body.is_lawful x ≡ true) c.in-BecomeLeader.is c.requires

pub returns-in-BecomeLeader : goal.returns-in-BecomeLeader
returns-in-BecomeLeader c = rw c.in-BecomeLeader.is c.put_become_leader.ensures

pub put_add_follower-requires : goal.put_add_follower-requires
put_add_follower-requires c = subst (λ x. body.is_lawful x ≡ true) c.in-AddFollower.is c.requires

pub returns-in-AddFollower : goal.returns-in-AddFollower
returns-in-AddFollower c = rw c.in-AddFollower.is c.put_add_follower.ensures

pub put_fenced-requires : goal.put_fenced-requires
put_fenced-requires c = subst (λ x. body.is_lawful x ≡ true) c.in-Fenced.is c.requires

pub returns-in-Fenced : goal.returns-in-Fenced
returns-in-Fenced c = rw c.in-Fenced.is c.put_fenced.ensures

pub put_refused-requires : goal.put_refused-requires
put_refused-requires c = subst (λ x. body.is_lawful x ≡ true) c.in-Refused.is c.requires

pub returns-in-Refused : goal.returns-in-Refused
returns-in-Refused c = rw c.in-Refused.is c.put_refused.ensures

pub put_append-requires : goal.put_append-requires
put_append-requires c = subst (λ x. body.is_lawful x ≡ true) c.in-Append.is c.requires

pub returns-in-Append : goal.returns-in-Append
returns-in-Append c = rw c.in-Append.is c.put_append.ensures

pub put_snapshot-requires : goal.put_snapshot-requires
put_snapshot-requires c = subst (λ x. body.is_lawful x ≡ true) c.in-Snapshot.is c.requires

pub returns-in-Snapshot : goal.returns-in-Snapshot
returns-in-Snapshot c = rw c.in-Snapshot.is c.put_snapshot.ensures

pub put_want-requires : goal.put_want-requires
put_want-requires c = subst (λ x. body.is_lawful x ≡ true) c.in-Want.is c.requires

pub returns-in-Want : goal.returns-in-Want
returns-in-Want c = rw c.in-Want.is c.put_want.ensures

pub returns-in-NewTerm : goal.returns-in-NewTerm
unfolding body
returns-in-NewTerm c = rw c.in-NewTerm.is c.put_front.ensures

pub returns-in-Ready : goal.returns-in-Ready
unfolding body
returns-in-Ready c = rw c.in-Ready.is c.put_front-in-Ready.ensures

pub returns-in-Truncate : goal.returns-in-Truncate
unfolding body
returns-in-Truncate c = rw c.in-Truncate.is c.put_count.ensures

pub returns-in-Ack : goal.returns-in-Ack
unfolding body
returns-in-Ack c = rw c.in-Ack.is c.put_count-in-Ack.ensures
