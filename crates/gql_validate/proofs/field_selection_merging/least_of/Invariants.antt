use Rattle.std.proofs.Common.{◌≡◌, drop}
use Rattle.gql_nodes.specs.Listed.{views}
use Rattle.gql_validate.specs.Merged as spec
use Rattle.gql_validate.proofs.field_selection_merging.least_of.Given as goal

abbrev pub invariant-loop-f : goal.invariant-loop-f
invariant-loop-f l = spec.least_of (views l.graph.nodes.now) l.graph.tables l.spoiled.keys (drop l.f-index l.fs) l.gs l.now ≡ spec.least_of (views l.graph.nodes.now) l.graph.tables l.spoiled.keys l.fs l.gs l.fn.least
