use Rattle.sql_lex.proofs.TokenValues.{word_spells, name_spells, string_spells}
use Rattle.sql_lex.proofs.laws.values_are_by_the_grammar.Goals as goal

pub returns : goal.returns
returns c = record { word = λ text t h k. word_spells text t h k; name = λ text t h k. name_spells text t h k; string = λ text t h k. string_spells text t h k }
