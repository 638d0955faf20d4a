use Rattle.std.proofs.Common.{◌≡◌, ◌||◌, ℕ, List, length, drop}
use Rattle.gql_nodes.specs.Listed.{views}
use Rattle.gql_nodes.specs.Names.{is_among}
use Rattle.gql_nodes.specs.Uses as uses
use Rattle.gql_scopes.specs.Tables as spec
use Rattle.gql_scopes.proofs.tables.gather_used.Given as goal

abbrev pub invariant-loop-at : goal.invariant-loop-at
invariant-loop-at l =
    (length l.rows.items ≡ l.count)
    × ((place : ℕ) (name : List ℕ) → (is_among name (spec.row l.rows.items place) || is_among name (uses.used_names (views (drop l.at-index l.nodes)) place)) ≡ is_among name (uses.used_names (views l.nodes) place))
