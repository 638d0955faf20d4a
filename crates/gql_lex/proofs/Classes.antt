-- What the lexer's tests of bytes decide, in the grammar's words.
use Rattle.std.proofs.Common.{◌≡◌, ◌⊎◌, inl, inr, ℕ, true, false, [], ◌∷◌, Some, Decides, arith}
use Rattle.std.proofs.lemmas.Bool.Decides.{nat_tests, Decides-or}
use Rattle.gql_lex.specs.Bytes.{is_digit, is_name_start, is_name_byte, is_blank, is_plain, is_line_end, is_source, is_white}
use Rattle.gql_lex.specs.Strings.{escaped, hex_value, is_surrogate}
use Rattle.gql_lex.specs.Grammar.{IsOneOf, IsWhiteSpace, IsLineTerminator, IsSourceCharacter, IsCommentCharacter, IsDigit, IsNameStart, IsNameContinue, IsEscapedCharacter, IsHexDigit, IsSurrogate}

pub digit_decides : (b : ℕ) → Decides (is_digit b) (IsDigit b)
digit_decides b = (λ e. grind (arith, nat_tests), λ h. grind (arith, nat_tests))

pub name_start_decides : (b : ℕ) → Decides (is_name_start b) (IsNameStart b)
name_start_decides b = (λ e. grind (arith, nat_tests), λ h. grind (arith, nat_tests))

pub name_byte_decides : (b : ℕ) → Decides (is_name_byte b) (IsNameContinue b)
name_byte_decides b = Decides-or (is_name_start b) (is_digit b) (name_start_decides b) (digit_decides b)

pub line_end_decides : (b : ℕ) → Decides (is_line_end b) (IsLineTerminator b)
line_end_decides b = (λ e. grind (arith, nat_tests), λ h. grind (arith, nat_tests))

pub white_decides : (b : ℕ) → Decides (is_white b) (IsWhiteSpace b)
white_decides b = (λ e. grind (arith, nat_tests), λ h. grind (arith, nat_tests))

pub blank_is : (b : ℕ) → is_blank b ≡ true → IsWhiteSpace b ⊎ (IsLineTerminator b ⊎ (b ≡ 44))
blank_is b e = grind (arith, nat_tests)

pub blank_is_not : (b : ℕ) → is_blank b ≡ false → IsOneOf (9 ∷ 32 ∷ 10 ∷ 13 ∷ 44 ∷ []) b → ⊥
blank_is_not b e h = grind (arith, nat_tests)

pub source_decides : (b : ℕ) → Decides (is_source b) (IsSourceCharacter b)
source_decides b = (λ e. grind (arith, nat_tests), λ h. grind (arith, nat_tests))

pub plain_decides : (b : ℕ) → Decides (is_plain b) (IsCommentCharacter b)
plain_decides b = (λ e. (grind (arith, nat_tests), λ h. grind (arith, nat_tests)), λ h. plain_from h.0 h.1)
  where
    plain_from : IsSourceCharacter b → (IsLineTerminator b → ⊥) → is_plain b ≡ true
    plain_from (inl (inl t)) n = grind (arith, nat_tests)
    plain_from (inl (inr (inl t))) n = absurd (n (inl t))
    plain_from (inl (inr (inr (inl t)))) n = absurd (n (inr (inl t)))
    plain_from (inl (inr (inr (inr t)))) n = absurd t
    plain_from (inr le) n = grind (arith, nat_tests)

pub surrogate_decides : (code : ℕ) → Decides (is_surrogate code) (IsSurrogate code)
surrogate_decides code = (λ e. grind (arith, nat_tests), λ h. grind (arith, nat_tests))

pub hex_is : (b v : ℕ) → hex_value b ≡ Some v → IsHexDigit b v
hex_is b v e = grind (arith, nat_tests)

pub hex_value_is : (b v : ℕ) → IsHexDigit b v → hex_value b ≡ Some v
hex_value_is b v e = grind (arith, nat_tests)

pub escaped_is : (c v : ℕ) → escaped c ≡ Some v → IsEscapedCharacter c v
escaped_is c v e = grind (arith, nat_tests)

pub escaped_value_is : (c v : ℕ) → IsEscapedCharacter c v → escaped c ≡ Some v
escaped_value_is c v e = grind (arith, nat_tests)
