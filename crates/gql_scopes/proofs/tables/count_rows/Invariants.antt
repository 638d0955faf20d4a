use Rattle.std.proofs.Common.{◌≤◌, ◌<◌, length, take}
use Rattle.pg_base.specs.Lists.{Each}
use Rattle.gql_nodes.specs.Listed.{views}
use Rattle.gql_scopes.proofs.tables.count_rows.Given as goal

abbrev pub invariant-loop-at : goal.invariant-loop-at
invariant-loop-at l = (length l.document.definitions ≤ l.count) × Each (λ x. x.within < l.count) (views (take l.at-index l.nodes))
