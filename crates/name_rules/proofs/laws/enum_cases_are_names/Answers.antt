use Rattle.name_rules.proofs.Cases.{IsName-enum_case_of}
use Rattle.name_rules.proofs.laws.enum_cases_are_names.Goals as goal

pub returns : goal.returns
returns c = IsName-enum_case_of c.args.label.now
