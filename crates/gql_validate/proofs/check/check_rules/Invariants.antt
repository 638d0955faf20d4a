use Rattle.gql_validate.proofs.Rows.{HoldBefore}
use Rattle.gql_validate.proofs.check.check_rules.Given as goal

abbrev pub invariant-loop-number : goal.invariant-loop-number
invariant-loop-number l = HoldBefore l.schema l.document l.number
