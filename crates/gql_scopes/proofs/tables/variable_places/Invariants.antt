use Rattle.std.proofs.Common.{◌≡◌, ℕ, List, drop}
use Rattle.gql_nodes.specs.Names.{place_in, first_of}
use Rattle.gql_scopes.specs.Tables.{variable_from}
use Rattle.gql_scopes.proofs.tables.variable_places.Given as goal

abbrev pub invariant-loop-place : goal.invariant-loop-place
invariant-loop-place l =
    (name : List ℕ) → first_of (place_in l.found name) (variable_from l.place (drop l.place l.variables) name) ≡ variable_from 0 l.variables name
