use Rattle.std.proofs.Common.{◌∙◌, sym, ap, Some, Result}
use Rattle.sql_lex.specs.declared.token.Token.{Token}
use Rattle.sql_lex.specs.declared.token.LexFault.{LexFault}
use Rattle.ddl_reader.specs.Lexemes.{lexemes_on}
use Rattle.ddl_reader.proofs.Places.{on_from}
use Rattle.ddl_reader.proofs.text_tokens.tokens_from.Goals as goal

pub returns-in-Ok : goal.returns-in-Ok
returns-in-Ok c = ap (λ (r : Result Token LexFault). lexemes_on c.args.bytes.now (Some r)) (sym c.in-Ok.ensures.token) ∙ on_from c.args.bytes.now c.args.at c.requires.within

pub returns-in-Err : goal.returns-in-Err
returns-in-Err c = ap (λ (r : Result Token LexFault). lexemes_on c.args.bytes.now (Some r)) (sym c.in-Err.ensures.token) ∙ on_from c.args.bytes.now c.args.at c.requires.within
