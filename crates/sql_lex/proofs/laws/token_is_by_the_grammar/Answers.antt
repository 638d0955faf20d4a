use Rattle.sql_lex.proofs.Known.{stands, by_grammar}
use Rattle.sql_lex.proofs.laws.token_is_by_the_grammar.Goals as goal

pub returns : goal.returns
returns c = record { stands = λ text at t le e. stands text at t le e; grammar = λ text at t le e. by_grammar text at t le e }
