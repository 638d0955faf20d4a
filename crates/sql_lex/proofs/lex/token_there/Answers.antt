use Rattle.std.proofs.Common.{◌∙◌, ◌<◌, length, sym, arith}
use Rattle.sql_lex.proofs.Rests.{is_stray}
use Rattle.sql_lex.proofs.TokenSteps.{same_wanted, token_end, token_word, token_name, token_string, token_number, token_sign, token_stray}
use Rattle.sql_lex.proofs.lex.token_there.Goals as goal

pub returns-then-from-text : goal.returns-then-from-text
returns-then-from-text c = rw c.piece.ensures (omega arith, omega arith, omega arith, token_end _ _ c.if-from-text.true)

pub returns-then-is_word_start : goal.returns-then-is_word_start
returns-then-is_word_start c =
    let lt : c.args.from < length c.args.text.now = omega arith in
    same_wanted _ _ _ _ _ (token_word _ _ lt (sym c.is_word_start.ensures ∙ c.if-is_word_start.true)) c.word_there.ensures

pub returns-then-byte-eq34 : goal.returns-then-byte-eq34
returns-then-byte-eq34 c =
    let lt : c.args.from < length c.args.text.now = omega arith in
    same_wanted _ _ _ _ _ (token_name _ _ lt (sym c.is_word_start.ensures ∙ c.if-is_word_start.false) c.if-byte-eq34.true) c.name_there.ensures

pub returns-then-byte-eq39 : goal.returns-then-byte-eq39
returns-then-byte-eq39 c =
    let lt : c.args.from < length c.args.text.now = omega arith in
    same_wanted _ _ _ _ _ (token_string _ _ lt (sym c.is_word_start.ensures ∙ c.if-is_word_start.false) c.if-byte-eq34.false c.if-byte-eq39.true) c.string_there.ensures

pub returns-then-is_digit : goal.returns-then-is_digit
returns-then-is_digit c =
    let lt : c.args.from < length c.args.text.now = omega arith in
    same_wanted _ _ _ _ _ (token_number _ _ lt (sym c.is_word_start.ensures ∙ c.if-is_word_start.false) c.if-byte-eq34.false c.if-byte-eq39.false (sym c.is_digit.ensures ∙ c.if-is_digit.true)) c.number_there.ensures

pub returns-then-is_sign : goal.returns-then-is_sign
returns-then-is_sign c =
    let lt : c.args.from < length c.args.text.now = omega arith in
    rw c.piece-then-is_sign.ensures (
      omega arith,
      omega arith,
      omega arith,
      token_sign _ _ lt (sym c.is_word_start.ensures ∙ c.if-is_word_start.false) c.if-byte-eq34.false c.if-byte-eq39.false (sym c.is_digit.ensures ∙ c.if-is_digit.false) (sym c.is_sign.ensures ∙ c.if-is_sign.true),
    )

pub returns-else-is_sign : goal.returns-else-is_sign
returns-else-is_sign c =
    let lt : c.args.from < length c.args.text.now = omega arith in
    is_stray _ _ _ _ c.stray.ensures lt
    (token_stray _ _ lt (sym c.is_word_start.ensures ∙ c.if-is_word_start.false) c.if-byte-eq34.false c.if-byte-eq39.false (sym c.is_digit.ensures ∙ c.if-is_digit.false) (sym c.is_sign.ensures ∙ c.if-is_sign.false))
