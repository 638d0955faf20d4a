use Rattle.std.proofs.Common.{◌≡◌, ◌<◌, ℕ, length}
use Rattle.gql_scopes.specs.Tables.{is_marked, is_asked}
use Rattle.gql_scopes.proofs.wanted.mark_asked.Given as goal

abbrev pub invariant-loop-place : goal.invariant-loop-place
invariant-loop-place l =
    (length l.marks.items ≡ l.place)
    × ((p : ℕ) → p < l.place → is_marked l.marks.items p ≡ is_asked l.document l.ordered p)
