use Rattle.sql_lex.proofs.FaultReasons.{fault_from}
use Rattle.sql_lex.proofs.laws.fault_is_by_the_grammar.Goals as goal

pub returns : goal.returns
returns c = λ text at fault le e. fault_from text at fault le e
