use Rattle.std.proofs.Common.{◌∙◌, sym, ap, arith}
use Rattle.std.proofs.lemmas.Result.{err_from_is_err_and}
use Rattle.sql_lex.specs.declared.token.TokenKind.TheVariants.{EscStr}
use Rattle.sql_lex.specs.Lex.{string_at}
use Rattle.sql_lex.proofs.TokenSteps.{word_escaped_at}
use Rattle.sql_lex.proofs.lex.word_there.Goals as goal

pub returns-in_err-to : goal.returns-in_err-to
returns-in_err-to c =
    let p = err_from_is_err_and c.from_residual.result c.from_residual.ensures.1 in
    let word = word_escaped_at _ _ c.requires (sym c.is_escape_mark.ensures ∙ c.if-is_escape_mark.true) (sym c.stands_at.ensures ∙ c.if-stands_at.true) in
    rw (p.1, p.2) (c.in_err-to.ensures.0, word ∙ ap (string_at EscStr _) c.in_err-to.ensures.1)

pub returns-then-stands_at : goal.returns-then-stands_at
returns-then-stands_at c =
    let word = word_escaped_at _ _ c.requires (sym c.is_escape_mark.ensures ∙ c.if-is_escape_mark.true) (sym c.stands_at.ensures ∙ c.if-stands_at.true) in
    rw c.piece.ensures (omega arith, omega (arith, c.in_ok-to.ensures.0), c.in_ok-to.ensures.1, word ∙ ap (string_at EscStr _) c.in_ok-to.ensures.2)
