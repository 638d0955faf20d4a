use Rattle.std.proofs.Common.{◌≡◌, drop}
use Rattle.gql_nodes.specs.Listed.{views}
use Rattle.gql_validate.specs.Merged as spec
use Rattle.gql_validate.proofs.field_selection_merging.least_with.Given as goal

abbrev pub invariant-loop-g : goal.invariant-loop-g
invariant-loop-g l = spec.least_with (views l.graph.nodes.now) l.graph.tables l.spoiled.keys l.f (drop l.g-index l.gs) l.now ≡ spec.least_with (views l.graph.nodes.now) l.graph.tables l.spoiled.keys l.f l.gs l.fn.least
