use Rattle.gql_nodes.proofs.Closures.{IsGrown}
use Rattle.gql_nodes.proofs.closure.reached.Given as goal

abbrev pub invariant-loop-at : goal.invariant-loop-at
invariant-loop-at g l = IsGrown l.first (g.G.Graph.steps l.graph) l.found.keys l.at
