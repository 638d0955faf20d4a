use Rattle.std.proofs.Common.{◌≤◌, rules}
use Rattle.gql_validate.proofs.Rows.{none_before, all_hold, number_of, refused}
use Rattle.gql_validate.proofs.check.check_rules.Goals as goal

pub loop-number-init : goal.loop-number-init
loop-number-init c = none_before c.args.schema.now c.args.document.now

pub returns-clause-valid : goal.returns-clause-valid
returns-clause-valid c = all_hold c.args.schema.now c.args.document.now c.loop-number.number c.loop-number-test.false c.loop-number.invariant

pub returns-in-Err-clause-fault : goal.returns-in-Err-clause-fault
returns-in-Err-clause-fault c =
    let low : 1 ≤ c.loop-number.number = search rules in
    refused c.args.schema.now c.args.document.now c.loop-number.number c.in-Err.error (number_of c.loop-number.number low c.loop-number-test.true) c.loop-number.invariant c.in-Err.ensures.fault
