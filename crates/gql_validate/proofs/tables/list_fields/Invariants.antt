use Rattle.std.proofs.Common.{◌≡◌, drop}
use Rattle.gql_nodes.specs.Listed.{views}
use Rattle.gql_validate.specs.Merged as spec
use Rattle.gql_validate.proofs.tables.list_fields.Given as goal

abbrev pub invariant-loop-place : goal.invariant-loop-place
invariant-loop-place l = spec.put_fields l.lists.items l.place (views (drop l.place l.nodes)) ≡ spec.put_fields (spec.empty_lists l.nodes) 0 (views l.nodes)
