use Rattle.std.proofs.Common.{◌≡◌, drop}
use Rattle.std.specs.List.{list_any}
use Rattle.gql_nodes.specs.Names.{is_among}
use Rattle.gql_scopes.specs.Tables.{row}
use Rattle.gql_scopes.proofs.all_variables_used.is_used.Given as goal

abbrev pub invariant-loop-place : goal.invariant-loop-place
invariant-loop-place l =
    list_any (λ place. is_among l.name (row l.tables.used place)) (drop l.place-index l.reached) ≡ list_any (λ place. is_among l.name (row l.tables.used place)) l.reached
