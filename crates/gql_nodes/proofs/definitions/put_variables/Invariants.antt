use Rattle.std.proofs.Common.{◌≡◌, drop, []}
use Rattle.gql_nodes.specs.Nodes as spec
use Rattle.gql_nodes.specs.Listed.{views}
use Rattle.gql_nodes.proofs.definitions.put_variables.Given as goal

abbrev pub invariant-loop-variable : goal.invariant-loop-variable
invariant-loop-variable l =
    spec.put_variables l.schema l.within l.before (drop l.variable-index l.variables) (views l.out.items)
    ≡ spec.put_variables l.schema l.within [] l.variables (views l.initial.out.items)
