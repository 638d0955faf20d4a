use Rattle.std.proofs.Common.{◌≡◌, drop}
use Rattle.gql_nodes.specs.Listed.{views}
use Rattle.gql_validate.specs.Merged as spec
use Rattle.gql_validate.proofs.spoiled.put_each_led.Given as goal

abbrev pub invariant-loop-p : goal.invariant-loop-p
invariant-loop-p l =
    spec.put_each_led (views l.graph.nodes.now) l.graph.tables l.spoiled.keys (drop l.p-index l.found)
    ≡ spec.put_each_led (views l.graph.nodes.now) l.graph.tables l.initial.spoiled.keys l.found
