use Rattle.std.proofs.Common.{◌≡◌, ◌++◌, drop}
use Rattle.gql_validate.proofs.set_graph.list_of.Given as goal

abbrev pub invariant-loop-at : goal.invariant-loop-at
invariant-loop-at l = l.list.items ++ drop l.at l.found.keys ≡ l.found.keys
