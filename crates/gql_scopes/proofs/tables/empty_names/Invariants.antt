use Rattle.std.proofs.Common.{◌≡◌, ℕ, [], length}
use Rattle.gql_scopes.specs.Tables as spec
use Rattle.gql_scopes.proofs.tables.empty_names.Given as goal

abbrev pub invariant-loop-place : goal.invariant-loop-place
invariant-loop-place l = (length l.rows.items ≡ l._place) × ((place : ℕ) → spec.row l.rows.items place ≡ [])
