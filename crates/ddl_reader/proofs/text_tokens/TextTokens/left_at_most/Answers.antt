use Rattle.std.proofs.Common.{◌≡◌, ◌∙◌, sym, ap, Some, Option, Result, List, length, arith}
use Rattle.sql_lex.specs.declared.token.Token.{Token}
use Rattle.sql_lex.specs.declared.token.LexFault.{LexFault}
use Rattle.ddl_reader.specs.declared.lexeme.Lexeme.{Lexeme}
use Rattle.ddl_reader.specs.Lexemes.{lexemes_on}
use Rattle.ddl_reader.proofs.text_tokens.TextTokens.left_at_most.Goals as goal

pub returns-in-Some-clause-bound : goal.returns-in-Some-clause-bound
returns-in-Some-clause-bound c =
    let text = c.self.inside.bytes.now in
    let shown : lexemes_on text (Some c.in-Some.read) ≡ c.args.self.now = ap (λ (n : Option (Result Token LexFault)). lexemes_on text n) (sym c.in-Some.is) ∙ c.self.view_is in
    let count = ap (λ (w : List Lexeme). length w) shown in
    let h = c.left_after.ensures.bound in
    omega (arith, h, count)
