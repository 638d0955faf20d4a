use Rattle.std.proofs.Common.{◌≡◌, ◌&&◌, drop}
use Rattle.std.specs.Prelude.{is_none}
use Rattle.gql_scopes.specs.Tables.{row, has, found_variable, any_operation}
use Rattle.gql_scopes.specs.Tests.{is_undefined}
use Rattle.gql_scopes.proofs.all_variable_uses_defined.is_undefined.Given as goal

abbrev pub invariant-loop-place : goal.invariant-loop-place
invariant-loop-place l =
    any_operation l.place (λ place o. has (row l.tables.reached place) l.within && is_none (found_variable l.tables place o l.name)) (drop l.place l.document.definitions)
    ≡ is_undefined l.document l.tables l.within l.name
