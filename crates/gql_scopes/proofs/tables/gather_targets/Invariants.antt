use Rattle.std.proofs.Common.{◌≡◌, ◌++◌, ℕ, length, drop}
use Rattle.gql_nodes.specs.Listed.{views}
use Rattle.gql_scopes.specs.Tables as spec
use Rattle.gql_scopes.proofs.tables.gather_targets.Given as goal

abbrev pub invariant-loop-at : goal.invariant-loop-at
invariant-loop-at l =
    (length l.rows.items ≡ l.count)
    × ((place : ℕ) → (spec.row l.rows.items place ++ spec.targets_in l.fragments (views (drop l.at-index l.nodes)) place) ≡ spec.targets_in l.fragments (views l.nodes) place)
