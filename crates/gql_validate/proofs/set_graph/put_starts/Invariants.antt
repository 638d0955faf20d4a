use Rattle.std.proofs.Common.{◌≡◌, ◌++◌, drop}
use Rattle.gql_nodes.specs.Listed.{views}
use Rattle.gql_validate.specs.Merged as spec
use Rattle.gql_validate.proofs.set_graph.put_starts.Given as goal

abbrev pub invariant-loop-place : goal.invariant-loop-place
invariant-loop-place l =
    l.out.items ++ spec.starts_by l.tables l.place (views (drop l.place l.nodes)) ≡ l.initial.out.items ++ spec.starts_by l.tables 0 (views l.nodes)
