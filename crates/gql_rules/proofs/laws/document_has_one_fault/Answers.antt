use Rattle.gql_rules.proofs.OneFault.{one_fault}
use Rattle.gql_rules.proofs.laws.document_has_one_fault.Goals as goal

pub returns : goal.returns
returns c = one_fault
