use Rattle.std.proofs.Common.{sym, ap, ◌∙◌}
use Rattle.gql_nodes.specs.Uses.{as_operation}
use Rattle.gql_scopes.proofs.Gathered.{tells, same_operation}
use Rattle.gql_scopes.proofs.tables.variables_of.Goals as goal

pub returns-in_ok-places-in-Operation : goal.returns-in_ok-places-in-Operation
returns-in_ok-places-in-Operation c =
    tells c.args.definition.now c.as_slice.result.now c.in_ok-places-in-Operation.places
    (λ o is. same_operation c.args.definition.now c.in-Operation.operation o (ap as_operation c.in-Operation.is) is ∙ sym c.as_slice.ensures) c.in_ok-places-in-Operation.ensures
