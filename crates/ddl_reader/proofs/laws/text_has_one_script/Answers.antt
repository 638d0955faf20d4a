use Rattle.ddl_reader.proofs.OneScript.{one_script}
use Rattle.ddl_reader.proofs.laws.text_has_one_script.Goals as goal

pub returns : goal.returns
returns c = one_script
