use Rattle.std.proofs.Common.{◌≡◌, ◌&&◌, drop}
use Rattle.gql_types.specs.Positions.{ty_at}
use Rattle.gql_scopes.specs.AllVariableUsagesAreAllowed.{is_refused}
use Rattle.gql_scopes.specs.Conditions.{if_some}
use Rattle.gql_scopes.specs.Tables.{row, has, found_variable, any_operation}
use Rattle.gql_scopes.specs.Tests.{is_misused}
use Rattle.gql_scopes.proofs.all_variable_usages_are_allowed.is_misused.Given as goal

abbrev pub invariant-loop-place : goal.invariant-loop-place
invariant-loop-place l =
    any_operation l.place (λ place o. has (row l.tables.reached place) l.within && if_some (is_refused l.schema (ty_at l.position)) (found_variable l.tables place o l.name)) (drop l.place l.document.definitions)
    ≡ is_misused l.schema l.document l.tables l.within (ty_at l.position) l.name
