use Rattle.std.proofs.Common.{◌≡◌, drop}
use Rattle.gql_nodes.specs.Listed.{views}
use Rattle.gql_validate.specs.JoinedSets as spec
use Rattle.gql_validate.proofs.joined_sets.all_join.Given as goal

abbrev pub invariant-loop-place : goal.invariant-loop-place
invariant-loop-place l =
    spec.all_join (views l.nodes) l.heads l.slots l.place (views (drop l.place l.nodes))
    ≡ spec.all_join (views l.nodes) l.heads l.slots 0 (views l.nodes)
