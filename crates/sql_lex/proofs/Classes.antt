-- What the lexer's tests of bytes decide, in the grammar's words.
use Rattle.std.proofs.Common.{ℕ, ◌&&◌, nat_le, Decides, arith}
use Rattle.std.proofs.lemmas.Bool.Decides.{nat_tests, Decides-or}
use Rattle.sql_lex.specs.Bytes.{is_blank, is_line_end, is_digit, is_word_start, is_word_byte, is_sign, is_escape_mark}
use Rattle.sql_lex.specs.Grammar.{IsBlank, IsLineEnd, IsBetween, IsDigit, BeginsWord, GoesOnWord, IsSign, IsEscapeMark}

between_decides : (low high b : ℕ) → Decides (nat_le low b && nat_le b high) (IsBetween low high b)
between_decides low high b = (λ e. grind (arith, nat_tests), λ h. grind (arith, nat_tests))

pub blank_decides : (b : ℕ) → Decides (is_blank b) (IsBlank b)
blank_decides b = (λ e. grind (arith, nat_tests), λ h. grind (arith, nat_tests))

pub line_end_decides : (b : ℕ) → Decides (is_line_end b) (IsLineEnd b)
line_end_decides b = (λ e. grind (arith, nat_tests), λ h. grind (arith, nat_tests))

pub digit_decides : (b : ℕ) → Decides (is_digit b) (IsDigit b)
digit_decides b = between_decides 48 57 b

pub word_start_decides : (b : ℕ) → Decides (is_word_start b) (BeginsWord b)
word_start_decides b = (λ e. grind (arith, nat_tests), λ h. grind (arith, nat_tests))

pub word_byte_decides : (b : ℕ) → Decides (is_word_byte b) (GoesOnWord b)
word_byte_decides b = Decides-or (is_word_start b) (is_digit b) (word_start_decides b) (digit_decides b)

pub sign_decides : (b : ℕ) → Decides (is_sign b) (IsSign b)
sign_decides b =
    (λ e. grind (arith, nat_tests), λ h. grind (arith, nat_tests))

pub escape_mark_decides : (b : ℕ) → Decides (is_escape_mark b) (IsEscapeMark b)
escape_mark_decides b = (λ e. grind (arith, nat_tests), λ h. grind (arith, nat_tests))
