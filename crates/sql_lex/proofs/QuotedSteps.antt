-- A text between quotes, byte by byte.
use Rattle.std.proofs.Common.{◌≡◌, ◌≢◌, ℕ, ◌+◌, ◌<◌, ◌≤◌, Bool, true, false, ◌&&◌, List, [], ◌∷◌, length, get_or, drop, refl, ap, ◌∙◌, Result, Ok, Err, eq-eqb, ◌==◌}
use borrow.Author.Tests.{ne_eqb}
use Rattle.std.proofs.lemmas.Bool.{false≢true}
use Rattle.sql_lex.specs.Bytes.{begins_with, begins_escape}
use Rattle.sql_lex.specs.Separators.{Stop, unterminated, stray}
use Rattle.sql_lex.specs.Faults.{unterminated_text}
use Rattle.sql_lex.specs.Quoted.{after_quoted, after_quote, after_backslash}
use Rattle.sql_lex.proofs.Rests.{split, drop_end, drop_second, stray_at}

after_quote_ends : (whole : List ℕ) (esc : Bool) (q : ℕ) (z : List ℕ) → begins_with q z ≡ false → after_quote whole esc q z ≡ Ok z
unfolding after_quoted
after_quote_ends whole esc q [] e = refl
after_quote_ends whole esc q (c ∷ z) e = rw e refl

after_quote_goes_on : (whole : List ℕ) (esc : Bool) (q : ℕ) (z : List ℕ) → begins_with q z ≡ true → after_quote whole esc q z ≡ after_quoted whole esc q (drop 1 z)
unfolding after_quoted
after_quote_goes_on whole esc q [] e = absurd (false≢true e)
after_quote_goes_on whole esc q (c ∷ z) e = rw e refl

after_backslash_stray : (whole : List ℕ) (esc : Bool) (q b : ℕ) (z : List ℕ) → begins_escape z ≡ false → after_backslash whole esc q b z ≡ Err (stray b z)
unfolding after_quoted
after_backslash_stray whole esc q b [] e = refl
after_backslash_stray whole esc q b (c ∷ z) e = rw e refl

after_backslash_goes_on : (whole : List ℕ) (esc : Bool) (q b : ℕ) (z : List ℕ) → begins_escape z ≡ true → after_backslash whole esc q b z ≡ after_quoted whole esc q (drop 1 z)
unfolding after_quoted
after_backslash_goes_on whole esc q b [] e = absurd (false≢true e)
after_backslash_goes_on whole esc q b (c ∷ z) e = rw e refl

module _ (whole : List ℕ) (esc : Bool) (q b : ℕ) (z : List ℕ) where
  cons_stray : b ≡ 0 → after_quoted whole esc q (b ∷ z) ≡ Err (stray b z)
  unfolding after_quoted
  cons_stray e = rw (eq-eqb b 0 e) refl

  cons_quote : b ≢ 0 → b ≡ q → after_quoted whole esc q (b ∷ z) ≡ after_quote whole esc q z
  unfolding after_quoted
  cons_quote n e = rw (ne_eqb b 0 n, eq-eqb b q e) refl

  cons_backslash : b ≢ 0 → b ≢ q → esc ≡ true → b ≡ 92 → after_quoted whole esc q (b ∷ z) ≡ after_backslash whole esc q b z
  unfolding after_quoted
  cons_backslash n m e f = rw (ne_eqb b 0 n, ne_eqb b q m, e, eq-eqb b 92 f) refl

  cons_plain : b ≢ 0 → b ≢ q → (esc && (b == 92)) ≡ false → after_quoted whole esc q (b ∷ z) ≡ after_quoted whole esc q z
  unfolding after_quoted
  cons_plain n m e = rw (ne_eqb b 0 n, ne_eqb b q m, e) refl

module _ (whole : List ℕ) (esc : Bool) (q : ℕ) (z : List ℕ) (i : ℕ) where
  pub quoted_unterminated : length z ≤ i → after_quoted whole esc q (drop i z) ≡ Err (unterminated unterminated_text whole)
  unfolding after_quoted
  quoted_unterminated le = ap (λ (w : List ℕ). after_quoted whole esc q w) (drop_end z i le)

  at_cons : i < length z → (r : Result (List ℕ) Stop) → after_quoted whole esc q (get_or z i 0 ∷ drop (i + 1) z) ≡ r → after_quoted whole esc q (drop i z) ≡ r
  at_cons lt r e = ap (λ (w : List ℕ). after_quoted whole esc q w) (split z i lt) ∙ e

  pub quoted_stray : i < length z → get_or z i 0 ≡ 0 → after_quoted whole esc q (drop i z) ≡ Err (record { which = 3; stands = drop i z; unread = drop (i + 1) z })
  quoted_stray lt e = at_cons lt _ (cons_stray whole esc q _ _ e ∙ ap Err (stray_at z i lt))

  pub quoted_ends : i < length z → get_or z i 0 ≢ 0 → get_or z i 0 ≡ q → begins_with q (drop (i + 1) z) ≡ false → after_quoted whole esc q (drop i z) ≡ Ok (drop (i + 1) z)
  quoted_ends lt n e f = at_cons lt _ (cons_quote whole esc q _ _ n e ∙ after_quote_ends whole esc q _ f)

  pub quoted_pair : i < length z → get_or z i 0 ≢ 0 → get_or z i 0 ≡ q → begins_with q (drop (i + 1) z) ≡ true → after_quoted whole esc q (drop i z) ≡ after_quoted whole esc q (drop (i + 2) z)
  quoted_pair lt n e f = at_cons lt _ (cons_quote whole esc q _ _ n e ∙ after_quote_goes_on whole esc q _ f ∙ ap (λ (w : List ℕ). after_quoted whole esc q w) (drop_second z i))

  pub quoted_escape_stray : i < length z → get_or z i 0 ≢ 0 → get_or z i 0 ≢ q → esc ≡ true → get_or z i 0 ≡ 92 → begins_escape (drop (i + 1) z) ≡ false
      → after_quoted whole esc q (drop i z) ≡ Err (record { which = 3; stands = drop i z; unread = drop (i + 1) z })
  quoted_escape_stray lt n m e f g = at_cons lt _ (cons_backslash whole esc q _ _ n m e f ∙ after_backslash_stray whole esc q _ _ g ∙ ap Err (stray_at z i lt))

  pub quoted_escape : i < length z → get_or z i 0 ≢ 0 → get_or z i 0 ≢ q → esc ≡ true → get_or z i 0 ≡ 92 → begins_escape (drop (i + 1) z) ≡ true
      → after_quoted whole esc q (drop i z) ≡ after_quoted whole esc q (drop (i + 2) z)
  quoted_escape lt n m e f g = at_cons lt _ (cons_backslash whole esc q _ _ n m e f ∙ after_backslash_goes_on whole esc q _ _ g ∙ ap (λ (w : List ℕ). after_quoted whole esc q w) (drop_second z i))

  pub quoted_plain : i < length z → get_or z i 0 ≢ 0 → get_or z i 0 ≢ q → (esc && (get_or z i 0 == 92)) ≡ false → after_quoted whole esc q (drop i z) ≡ after_quoted whole esc q (drop (i + 1) z)
  quoted_plain lt n m e = at_cons lt _ (cons_plain whole esc q _ _ n m e)
