-- The token that begins at a place, by its first byte.
use Rattle.std.proofs.Common.{◌≡◌, ◌≢◌, ℕ, ◌+◌, ◌<◌, true, false, List, [], ◌∷◌, length, get_or, drop, refl, sym, ap, subst, ◌∙◌, arith, Result, Err, eq-eqb}
use borrow.Author.Tests.{ne_eqb}
use Rattle.std.proofs.lemmas.Bool.{false≢true}
use Rattle.sql_lex.specs.declared.token.TokenKind.TheVariants.{Str, EscStr, Sign, End}
use Rattle.sql_lex.specs.declared.token.Halt.{Halt}
use Rattle.sql_lex.specs.declared.token.Piece.{Piece}
use Rattle.sql_lex.specs.Bytes.{is_word_start, is_digit, is_sign, is_escape_mark, begins_with, after_run}
use Rattle.sql_lex.specs.Separators.{Stop, stray}
use Rattle.sql_lex.specs.Quoted.{after_quoted}
use Rattle.sql_lex.specs.Lex.{Found, found, string_at, name_at, number_at, word_at, token_at}
use Rattle.sql_lex.specs.Offsets.{IsFound}
use Rattle.sql_lex.proofs.Rests.{split, drop_end, drop_second, stray_at}

pub same_wanted : (z : List ℕ) (start : ℕ) (wanted wanted' : Result Found Stop) (r : Result Piece Halt) → wanted ≡ wanted' → IsFound z start wanted' r → IsFound z start wanted r
same_wanted z start wanted wanted' r e f = let P : Result Found Stop → Type 0 = λ w. IsFound z start w r in subst P (sym e) f

module _ (b : ℕ) (z : List ℕ) where
  cons_word : is_word_start b ≡ true → token_at (b ∷ z) ≡ word_at b z
  unfolding token_at
  cons_word e = rw e refl

  cons_name : is_word_start b ≡ false → b ≡ 34 → token_at (b ∷ z) ≡ name_at b z (after_quoted (b ∷ z) false 34 z)
  unfolding token_at
  cons_name e f = rw (e, eq-eqb b 34 f) refl

  cons_string : is_word_start b ≡ false → b ≢ 34 → b ≡ 39 → token_at (b ∷ z) ≡ string_at Str (b ∷ z) (after_quoted (b ∷ z) false 39 z)
  unfolding token_at
  cons_string e n f = rw (e, ne_eqb b 34 n, eq-eqb b 39 f) refl

  cons_number : is_word_start b ≡ false → b ≢ 34 → b ≢ 39 → is_digit b ≡ true → token_at (b ∷ z) ≡ number_at (b ∷ z) (after_run is_digit z)
  unfolding token_at
  cons_number e n m f = rw (e, ne_eqb b 34 n, ne_eqb b 39 m, f) refl

  cons_sign : is_word_start b ≡ false → b ≢ 34 → b ≢ 39 → is_digit b ≡ false → is_sign b ≡ true → token_at (b ∷ z) ≡ found (Sign b) (b ∷ z) z
  unfolding token_at
  cons_sign e n m f g = rw (g, e, ne_eqb b 34 n, ne_eqb b 39 m, f) refl

  cons_stray : is_word_start b ≡ false → b ≢ 34 → b ≢ 39 → is_digit b ≡ false → is_sign b ≡ false → token_at (b ∷ z) ≡ Err (stray b z)
  unfolding token_at
  cons_stray e n m f g = rw (g, e, ne_eqb b 34 n, ne_eqb b 39 m, f) refl

  word_escaped : is_escape_mark b ≡ true → begins_with 39 z ≡ true → word_at b z ≡ string_at EscStr (b ∷ z) (after_quoted (b ∷ z) true 39 (drop 1 z))
  word_escaped e f = escaped z f
    where
      escaped : (w : List ℕ) → begins_with 39 w ≡ true → word_at b w ≡ string_at EscStr (b ∷ w) (after_quoted (b ∷ w) true 39 (drop 1 w))
      escaped [] f = absurd (false≢true f)
      escaped (c ∷ w) f = rw (e, f) refl

module _ (z : List ℕ) (i : ℕ) where
  pub token_end : i ≡ length z → token_at (drop i z) ≡ found End (drop i z) (drop i z)
  unfolding token_at
  token_end e = rw (drop_end z i (omega arith)) refl

  module _ (lt : i < length z) where
    at_cons : (r : Result Found Stop) → token_at (get_or z i 0 ∷ drop (i + 1) z) ≡ r → token_at (drop i z) ≡ r
    at_cons r e = ap token_at (split z i lt) ∙ e

    -- the same with the rest from the place on for the list that is its first byte and what is after
    whole : (F : List ℕ → Result Found Stop) → F (get_or z i 0 ∷ drop (i + 1) z) ≡ F (drop i z)
    whole F = ap F (sym (split z i lt))

    pub token_word : is_word_start (get_or z i 0) ≡ true → token_at (drop i z) ≡ word_at (get_or z i 0) (drop (i + 1) z)
    token_word e = at_cons _ (cons_word _ _ e)

    pub token_name : is_word_start (get_or z i 0) ≡ false → get_or z i 0 ≡ 34 → token_at (drop i z) ≡ name_at (get_or z i 0) (drop (i + 1) z) (after_quoted (drop i z) false 34 (drop (i + 1) z))
    token_name e f = at_cons _ (cons_name _ _ e f ∙ whole (λ w. name_at (get_or z i 0) (drop (i + 1) z) (after_quoted w false 34 (drop (i + 1) z))))

    pub token_string : is_word_start (get_or z i 0) ≡ false → get_or z i 0 ≢ 34 → get_or z i 0 ≡ 39 → token_at (drop i z) ≡ string_at Str (drop i z) (after_quoted (drop i z) false 39 (drop (i + 1) z))
    token_string e n f = at_cons _ (cons_string _ _ e n f ∙ whole (λ w. string_at Str w (after_quoted w false 39 (drop (i + 1) z))))

    pub token_number : is_word_start (get_or z i 0) ≡ false → get_or z i 0 ≢ 34 → get_or z i 0 ≢ 39 → is_digit (get_or z i 0) ≡ true → token_at (drop i z) ≡ number_at (drop i z) (after_run is_digit (drop (i + 1) z))
    token_number e n m f = at_cons _ (cons_number _ _ e n m f ∙ whole (λ w. number_at w (after_run is_digit (drop (i + 1) z))))

    pub token_sign : is_word_start (get_or z i 0) ≡ false → get_or z i 0 ≢ 34 → get_or z i 0 ≢ 39 → is_digit (get_or z i 0) ≡ false → is_sign (get_or z i 0) ≡ true → token_at (drop i z) ≡ found (Sign (get_or z i 0)) (drop i z) (drop (i + 1) z)
    token_sign e n m f g = at_cons _ (cons_sign _ _ e n m f g ∙ whole (λ w. found (Sign (get_or z i 0)) w (drop (i + 1) z)))

    pub token_stray : is_word_start (get_or z i 0) ≡ false → get_or z i 0 ≢ 34 → get_or z i 0 ≢ 39 → is_digit (get_or z i 0) ≡ false → is_sign (get_or z i 0) ≡ false → token_at (drop i z) ≡ Err (record { which = 3; stands = drop i z; unread = drop (i + 1) z })
    token_stray e n m f g = at_cons _ (cons_stray _ _ e n m f g ∙ ap Err (stray_at z i lt))

    pub word_escaped_at : is_escape_mark (get_or z i 0) ≡ true → begins_with 39 (drop (i + 1) z) ≡ true → word_at (get_or z i 0) (drop (i + 1) z) ≡ string_at EscStr (drop i z) (after_quoted (drop i z) true 39 (drop (i + 2) z))
    word_escaped_at e f = word_escaped _ _ e f ∙ whole (λ w. string_at EscStr w (after_quoted w true 39 (drop 1 (drop (i + 1) z)))) ∙ ap (λ (w : List ℕ). string_at EscStr (drop i z) (after_quoted (drop i z) true 39 w)) (drop_second z i)
