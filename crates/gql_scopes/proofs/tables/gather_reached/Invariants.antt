use Rattle.std.proofs.Common.{◌≡◌, ◌<◌, ℕ, [], ◌∷◌, length}
use Rattle.std.specs.Prelude.{IsTrue}
use Rattle.gql_nodes.specs.Reached.{IsClosure}
use Rattle.gql_scopes.specs.Tables as spec
use Rattle.gql_scopes.proofs.tables.gather_reached.Given as goal

abbrev pub invariant-loop-place : goal.invariant-loop-place
invariant-loop-place l =
    (length l.rows.items ≡ l.place)
    × ((p : ℕ) → p < l.place → IsTrue (spec.is_marked l.wanted p) → IsClosure (p ∷ []) (λ n. spec.row l.spreads.rows.items n) (spec.row l.rows.items p))
