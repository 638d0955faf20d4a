use Rattle.std.proofs.Common.{◌≡◌, ℕ, List, drop}
use Rattle.gql_nodes.specs.Names.{place_in, first_of}
use Rattle.gql_nodes.specs.Uses.{place_from}
use Rattle.gql_scopes.proofs.tables.gather_fragments.Given as goal

abbrev pub invariant-loop-place : goal.invariant-loop-place
invariant-loop-place l =
    (name : List ℕ) → first_of (place_in l.found name) (place_from l.place (drop l.place l.definitions) name) ≡ place_from 0 l.definitions name
