use Rattle.std.proofs.Common.{◌∙◌, sym, ap, subst, length, Result, arith}
use Rattle.sql_lex.specs.declared.token.Token.{Token}
use Rattle.sql_lex.specs.declared.token.LexFault.{LexFault}
use Rattle.sql_lex.proofs.Known.{token_order}
use Rattle.ddl_reader.specs.Lexemes.{after_by, lexemes_from, IsReadOf}
use Rattle.ddl_reader.proofs.Places.{after_token-bound, token-shortens}
use Rattle.ddl_reader.proofs.text_tokens.left_after.Goals as goal

pub overflow_sub-result : goal.overflow_sub-result
overflow_sub-result c = (token_order c.args.bytes.now c.in-Ok.token (subst (λ (r : Result Token LexFault). IsReadOf c.args.bytes.now r) c.in-Ok.is c.requires)).1

pub returns-else-is_end-clause-bound : goal.returns-else-is_end-clause-bound
returns-else-is_end-clause-bound c =
    let text = c.args.bytes.now in
    let h = after_token-bound text c.in-Ok.token in
    let e = ap (λ (r : Result Token LexFault). length (after_by (lexemes_from text) r)) c.in-Ok.is in
    omega (arith, h, e)

pub returns-else-is_end-clause-small : goal.returns-else-is_end-clause-small
returns-else-is_end-clause-small c =
    let k = subst (λ (r : Result Token LexFault). IsReadOf c.args.bytes.now r) c.in-Ok.is c.requires in
    let h = token-shortens c.args.bytes.now c.in-Ok.token k (sym c.is_end.ensures ∙ c.if-is_end.false) in
    omega (arith, h)
