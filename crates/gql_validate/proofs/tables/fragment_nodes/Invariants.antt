use Rattle.std.proofs.Common.{◌≡◌, ℕ, List, drop}
use Rattle.gql_nodes.specs.Listed.{views}
use Rattle.gql_nodes.specs.Names.{place_in, first_of}
use Rattle.gql_validate.specs.FieldSelectionMerging.{fragment_node, fragment_from}
use Rattle.gql_validate.proofs.tables.fragment_nodes.Given as goal

abbrev pub invariant-loop-place : goal.invariant-loop-place
invariant-loop-place l = (name : List ℕ) → first_of (place_in l.places name) (fragment_from l.place (views (drop l.place l.nodes)) name) ≡ fragment_node (views l.nodes) name
