use Rattle.std.proofs.Common.{◌≡◌, ◌||◌, ℕ, List, drop}
use Rattle.gql_nodes.specs.Listed.{views}
use Rattle.gql_nodes.specs.Names.{is_among}
use Rattle.gql_nodes.specs.Uses as uses
use Rattle.gql_scopes.proofs.tables.gather_spreads.Given as goal

abbrev pub invariant-loop-at : goal.invariant-loop-at
invariant-loop-at l =
    (name : List ℕ) → (is_among name l.found || is_among name (uses.spread_names (views (drop l.at-index l.nodes)))) ≡ is_among name (uses.spread_names (views l.nodes))
