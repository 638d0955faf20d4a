use Rattle.std.proofs.Common.{◌≡◌, ◌<◌, ℕ, Some, length}
use Rattle.std.specs.Prelude.{slice_get}
use Rattle.gql_reader.specs.declared.tree.Definition.{Definition}
use Rattle.gql_scopes.specs.Tables.{row, TellsVariables}
use Rattle.gql_scopes.proofs.tables.gather_variables.Given as goal

abbrev pub invariant-loop-definition : goal.invariant-loop-definition
invariant-loop-definition l =
    (length l.rows.items ≡ l.definition-index)
    × ((p : ℕ) (d : Definition) → p < l.definition-index → slice_get l.definitions p ≡ Some d → TellsVariables d (row l.rows.items p))
