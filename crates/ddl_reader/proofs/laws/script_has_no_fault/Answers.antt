use Rattle.ddl_reader.proofs.OneScript.{no_fault}
use Rattle.ddl_reader.proofs.laws.script_has_no_fault.Goals as goal

pub returns : goal.returns
returns c = no_fault
