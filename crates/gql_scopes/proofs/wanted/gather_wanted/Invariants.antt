use Rattle.std.proofs.Common.{◌≡◌, ◌<◌, ◌||◌, ℕ, length, drop}
use Rattle.gql_nodes.specs.Listed.{views}
use Rattle.gql_scopes.specs.Tables.{is_marked, declares, is_wanted}
use Rattle.gql_scopes.proofs.wanted.gather_wanted.Given as goal

abbrev pub invariant-loop-at : goal.invariant-loop-at
invariant-loop-at l =
    (length l.marks.items ≡ l.count)
    × ((place : ℕ) → place < l.count → (is_marked l.marks.items place || declares (views (drop l.at-index l.nodes)) place) ≡ is_wanted l.document (views l.nodes) l.ordered place)
