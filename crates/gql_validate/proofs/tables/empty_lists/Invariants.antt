use Rattle.std.proofs.Common.{◌≡◌, ◌++◌, drop}
use Rattle.gql_validate.specs.Merged as spec
use Rattle.gql_validate.proofs.tables.empty_lists.Given as goal

abbrev pub invariant-loop : goal.invariant-loop
invariant-loop l = l.lists.items ++ spec.empty_lists (drop l.index l.nodes) ≡ spec.empty_lists l.nodes
