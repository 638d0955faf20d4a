use Rattle.std.proofs.Common.{◌≡◌, drop}
use Rattle.gql_nodes.specs.Nodes as spec
use Rattle.gql_nodes.specs.Listed.{views}
use Rattle.gql_nodes.proofs.definitions.nodes.Given as goal

abbrev pub invariant-loop-within : goal.invariant-loop-within
invariant-loop-within l =
    spec.put_definitions l.schema l.within l.operations l.fragments (drop l.within l.document.definitions) (views l.out.items)
    ≡ spec.nodes l.schema l.document
