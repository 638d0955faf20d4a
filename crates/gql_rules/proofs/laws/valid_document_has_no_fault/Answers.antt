use Rattle.gql_rules.proofs.OneFault.{never_valid_and_fault}
use Rattle.gql_rules.proofs.laws.valid_document_has_no_fault.Goals as goal

pub returns : goal.returns
returns c = never_valid_and_fault
