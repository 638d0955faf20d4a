use Rattle.gql_lex.proofs.Values.{value_spelled}
use Rattle.gql_lex.proofs.laws.values_are_by_the_grammar.Goals as goal

pub returns : goal.returns
returns c = value_spelled
