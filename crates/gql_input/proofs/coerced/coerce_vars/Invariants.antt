use Rattle.std.proofs.Common.{◌≡◌, drop}
use Rattle.serde_json.specs.View.{view}
use Rattle.gql_input.specs.Coerced as spec
use Rattle.gql_input.proofs.Turns.{joined}
use Rattle.gql_input.proofs.coerced.coerce_vars.Given as goal

abbrev pub invariant-loop-variable : goal.invariant-loop-variable
invariant-loop-variable l =
    joined l.entries (spec.entries_of l.schema (view l.given) (drop l.variable-index l.variable-items)) ≡ spec.entries_of l.schema (view l.given) l.variable-items
