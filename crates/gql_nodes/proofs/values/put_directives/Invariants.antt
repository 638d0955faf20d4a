use Rattle.std.proofs.Common.{◌≡◌, drop, []}
use Rattle.gql_nodes.specs.Nodes as spec
use Rattle.gql_nodes.specs.Listed.{views}
use Rattle.gql_nodes.proofs.values.put_directives.Given as goal

abbrev pub invariant-loop-directive : goal.invariant-loop-directive
invariant-loop-directive l =
    spec.put_directives l.schema l.at.0 l.before l.at.1 (drop l.directive-index l.directives) (views l.out.items)
    ≡ spec.put_directives l.schema l.at.0 [] l.at.1 l.directives (views l.initial.out.items)
