-- The text of a message between replicas and coordinators.
use Rattle.std.specs.Prelude.{ℕ, List, ◌++◌, length, codes, decimal}
use Rattle.std.specs.List.{join_by}
use Rattle.ox_types.specs.declared.log.Head.{Head}
use Rattle.ox_types.specs.declared.peer.Peer.{Peer}
use Rattle.ox_types.specs.declared.peer.Peer.TheVariants.{Node, Coordinator}
use Rattle.ox_types.specs.Log.{table_head}
use Rattle.ox_quorum.specs.declared.config.Config.{Config}
use Rattle.ox_quorum.specs.declared.config.Config.TheVariants.{One, Joint}
use Rattle.ox_wire.specs.declared.body.Asked.{Asked}
use Rattle.ox_wire.specs.declared.body.Asked.TheVariants as asked
use Rattle.ox_wire.specs.declared.body.Body.{Body}
use Rattle.ox_wire.specs.declared.body.Body.TheVariants as body
use Rattle.ox_wire.specs.declared.body.Follower.{Follower}
use Rattle.ox_text.specs.Words.{behind_space, field}
use Rattle.ox_report.specs.Refusal.{refusal_text}

-- who sends or takes a message: n and a node, or c and a coordinator
abbrev pub peer_text : Peer → List ℕ
peer_text (Node n) = codes "n" ++ decimal n
peer_text (Coordinator c) = codes "c" ++ decimal c

-- the end of a log: its last term and its count
abbrev pub head_text : Head → List ℕ
head_text h = decimal h.term ++ codes ":" ++ decimal h.count

-- a text in braces
abbrev pub braced : List ℕ → List ℕ
braced w = codes "{" ++ w ++ codes "}"

-- nodes in braces, with a comma between two
abbrev pub nodes_text : List ℕ → List ℕ
nodes_text ns = braced (join_by decimal (codes ",") ns)

-- one ensemble, or two with a plus between them
abbrev pub config_text : Config → List ℕ
config_text (One a) = nodes_text a
config_text (Joint a b) = nodes_text a ++ codes "+" ++ nodes_text b

-- what a coordinator had asked
abbrev pub asked_name : Asked → List ℕ
asked_name asked.NewTerm = codes "NewTerm"
asked_name asked.BecomeLeader = codes "BecomeLeader"
asked_name asked.AddFollower = codes "AddFollower"

-- followers by their nodes
abbrev pub follower_text : Follower → List ℕ
follower_text f = decimal f.node

abbrev pub followers_text : List Follower → List ℕ
followers_text fs = braced (join_by follower_text (codes ",") fs)

-- the message: its kind and its fields in order
abbrev pub body_text : Body → List ℕ
body_text (body.NewTerm t) = codes "NewTerm" ++ field t
body_text (body.BecomeLeader t config fs) =
    codes "BecomeLeader" ++ field t ++ behind_space (config_text config) ++ behind_space (followers_text fs)
body_text (body.AddFollower t f) = codes "AddFollower" ++ field t ++ field f.node
body_text (body.Fenced t table) = codes "Fenced" ++ field t ++ behind_space (head_text (table_head table))
body_text (body.Ready t) = codes "Ready" ++ field t
body_text (body.Refused a t r) = codes "Refused" ++ behind_space (asked_name a) ++ field t ++ behind_space (refusal_text r)
body_text (body.Truncate t count) = codes "Truncate" ++ field t ++ field count
body_text (body.Append t from commit entries) = codes "Append" ++ field t ++ field from ++ field commit ++ field (length entries)
body_text (body.Snapshot c) = codes "Snapshot" ++ field c.term ++ behind_space (head_text c.head) ++ field c.total ++ field c.index
body_text (body.Ack t count) = codes "Ack" ++ field t ++ field count
body_text (body.Want t head next) = codes "Want" ++ field t ++ behind_space (head_text head) ++ field next
