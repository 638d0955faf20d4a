use Rattle.ddl_reader.proofs.OneScript.{one_fault}
use Rattle.ddl_reader.proofs.laws.text_has_one_fault.Goals as goal

pub returns : goal.returns
returns c = one_fault
