use Rattle.std.proofs.Common.{arith}
use Rattle.std.proofs.lemmas.Result.{err_from_is_err_and}
use Rattle.serde_json.specs.View.{view}
use Rattle.gql_input.proofs.Entries.{entry_fault}
use Rattle.gql_input.proofs.coerced.coerce_vars.Goals as goal

pub returns-in_err-entry : goal.returns-in_err-entry
returns-in_err-entry c =
    let p = err_from_is_err_and c.from_residual.result c.from_residual.ensures.1 in
    rw (p.1, p.2) (entry_fault c.args.schema.now c.args.operation.now (view c.args.given.now) c.as_slice-variable-items.result.now c.loop-variable.variable-index c.variable-item.result
    c.loop-variable.entries c.in_err-entry.field-0.0 c.as_slice-variable-items.ensures (omega arith) c.variable-item.is c.loop-variable.invariant c.in_err-entry.ensures)
