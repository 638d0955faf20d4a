use Rattle.schema_laws.proofs.CaseBytes.{case_of_label-is}
use Rattle.schema_laws.proofs.laws.case_is_by_characters.Goals as goal

pub returns : goal.returns
returns c = case_of_label-is c.args.label.now c.utf8.label
