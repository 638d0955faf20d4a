use Rattle.std.proofs.Common.{◌≡◌, drop}
use Rattle.indexmap.specs.IndexSet.{insert_all as with_all}
use Rattle.gql_nodes.proofs.closure.insert_each.Given as goal

abbrev pub invariant-loop-node : goal.invariant-loop-node
invariant-loop-node g l = with_all g.K.PartialEq.eq l.found.keys (drop l.node-index l.nodes) ≡ with_all g.K.PartialEq.eq l.initial.found.keys l.nodes
