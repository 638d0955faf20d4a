use Rattle.std.proofs.Common.{◌≡◌, drop, None}
use Rattle.gql_nodes.specs.Listed.{views}
use Rattle.gql_validate.specs.Merged as spec
use Rattle.gql_validate.proofs.field_selection_merging.least_in.Given as goal

abbrev pub invariant-loop-p : goal.invariant-loop-p
invariant-loop-p l =
    spec.least_in (views l.graph.nodes.now) l.graph.tables l.spoiled.keys (drop l.p-index l.found) l.now
    ≡ spec.least_in (views l.graph.nodes.now) l.graph.tables l.spoiled.keys l.found None
