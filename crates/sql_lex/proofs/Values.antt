-- What tokens spell is text, and is read byte by byte.
use Rattle.std.proofs.Common.{◌≡◌, ◌≢◌, ℕ, zero, suc, map, ⊎_elim, ◌+◌, ◌<◌, ◌≤◌, Bool, true, false, ◌&&◌, ◌==◌, List, [], ◌∷◌, ◌++◌, length, length-append, get_or, drop, refl, sym, ap, subst, ◌∙◌, append_assoc, append-nil, arith, eq-eqb}
use borrow.Author.Tests.{eqb-true, ne_eqb}
use Rattle.std.specs.Str.{IsUtf8}
use Rattle.std.specs.Char.{to_ascii_lowercase}
use Rattle.std.proofs.lemmas.Bool.{cond_both, false≢true, and_parts, cases_lt}
use Rattle.std.proofs.lemmas.Str.Ascii.{lowercase_ascii, lowercase_is}
use Rattle.std.proofs.lemmas.List.{get_or_at, take_at, drop_at}
use Rattle.std.proofs.lemmas.Str.{IsUtf8-append, IsUtf8-take, IsUtf8-drop, IsUtf8-from_ascii, IsCharBoundary-before_ascii, IsCharBoundary-after_ascii}
use Rattle.sql_lex.specs.Bytes.{begins_with}
use Rattle.sql_lex.specs.Value.{escaped, unquoted, unquoted_quote, unquoted_escape}
use Rattle.sql_lex.proofs.Rests.{split, drop_end, drop_second}

-- ---- UTF-8

one_byte : (b : ℕ) → b < 128 → (i : ℕ) → get_or (b ∷ []) i 0 < 128
one_byte b lt zero = lt
one_byte b lt (suc i) = omega arith

-- a text without a byte of ASCII is two texts
pub cut : (p : List ℕ) (b : ℕ) (z : List ℕ) → b < 128 → IsUtf8 (p ++ b ∷ z) → IsUtf8 p × IsUtf8 z
cut p b z lt u =
    let n = length p in
    let byte : get_or (p ++ b ∷ z) n 0 ≡ b = get_or_at p b z 0 n refl in
    let ascii : get_or (p ++ b ∷ z) n 0 < 128 = subst (λ (x : ℕ). x < 128) (sym byte) lt in
    let len : n < length (p ++ b ∷ z) = omega (arith, length-append p (b ∷ z)) in
    let again : p ++ b ∷ z ≡ (p ++ b ∷ []) ++ z = sym (append_assoc p (b ∷ []) z) in (
      subst IsUtf8 (take_at p (b ∷ z) n refl) (IsUtf8-take _ n u (IsCharBoundary-before_ascii _ n len ascii)),
      subst IsUtf8 (ap (λ (w : List ℕ). drop (n + 1) w) again ∙ drop_at (p ++ b ∷ []) z (n + 1) (length-append p (b ∷ []))) (IsUtf8-drop _ (n + 1) u (IsCharBoundary-after_ascii _ n u len ascii)),
    )

-- two texts with a byte of ASCII between them are one
joined : (p : List ℕ) (b : ℕ) (z : List ℕ) → b < 128 → IsUtf8 p → IsUtf8 z → IsUtf8 ((p ++ b ∷ []) ++ z)
joined p b z lt front back = IsUtf8-append (p ++ b ∷ []) z (IsUtf8-append p (b ∷ []) front (IsUtf8-from_ascii (b ∷ []) (one_byte b lt))) back

-- a byte of ASCII between two texts, where the second is made into another
after : (p : List ℕ) (b : ℕ) (z w : List ℕ) → b < 128 → IsUtf8 p → IsUtf8 z → (IsUtf8 ((p ++ b ∷ []) ++ z) → IsUtf8 ((p ++ b ∷ []) ++ w)) → IsUtf8 (p ++ b ∷ w)
after p b z w lt front back made = subst IsUtf8 (append_assoc p (b ∷ []) w) (made (joined p b z lt front back))

-- any byte of a text, where what is after it is made into another
past : (p : List ℕ) (b : ℕ) (z w : List ℕ) → IsUtf8 (p ++ b ∷ z) → (IsUtf8 ((p ++ b ∷ []) ++ z) → IsUtf8 ((p ++ b ∷ []) ++ w)) → IsUtf8 (p ++ b ∷ w)
past p b z w u made = subst IsUtf8 (append_assoc p (b ∷ []) w) (made (subst IsUtf8 (sym (append_assoc p (b ∷ []) z)) u))

module _ (esc : Bool) (q : ℕ) (ascii : q < 128) where
  mutual
    unfolding unquoted

    pub IsUtf8-unquoted : (z p : List ℕ) → IsUtf8 (p ++ z) → IsUtf8 (p ++ unquoted esc q z)
    IsUtf8-unquoted [] p u = u
    IsUtf8-unquoted (b ∷ z) p u =
        cond_both (b == q) _ _ (λ (w : List ℕ). IsUtf8 (p ++ w))
        (λ (e : (b == q) ≡ true). let same = eqb-true b q e in let parts = cut p b z (omega arith) u in IsUtf8-quote z p parts.0 parts.1)
        (λ _. cond_both (esc && (b == 92)) _ _ (λ (w : List ℕ). IsUtf8 (p ++ w))
        (λ (e : (esc && (b == 92)) ≡ true). let same = eqb-true b 92 (and_parts esc (b == 92) e).1 in let parts = cut p b z (omega arith) u in IsUtf8-escape z p parts.0 parts.1)
        (λ _. past p b z (unquoted esc q z) u (IsUtf8-unquoted z (p ++ b ∷ []))))

    IsUtf8-quote : (z p : List ℕ) → IsUtf8 p → IsUtf8 z → IsUtf8 (p ++ unquoted_quote esc q z)
    IsUtf8-quote [] p front back = subst IsUtf8 (sym (append-nil p)) front
    IsUtf8-quote (c ∷ z) p front back =
        cond_both (c == q) _ _ (λ (w : List ℕ). IsUtf8 (p ++ w))
        (λ (e : (c == q) ≡ true). let same = eqb-true c q e in after p q z (unquoted esc q z) ascii front (cut [] c z (omega arith) back).1 (IsUtf8-unquoted z (p ++ q ∷ [])))
        (λ _. subst IsUtf8 (sym (append-nil p)) front)

    IsUtf8-escape : (z p : List ℕ) → IsUtf8 p → IsUtf8 z → IsUtf8 (p ++ unquoted_escape esc q z)
    IsUtf8-escape [] p front back = subst IsUtf8 (sym (append-nil p)) front
    IsUtf8-escape (c ∷ z) p front back =
        cond_both (c == 110) _ _ (λ (x : ℕ). IsUtf8 (p ++ x ∷ unquoted esc q z))
        (λ (e : (c == 110) ≡ true). let same = eqb-true c 110 e in after p 10 z (unquoted esc q z) (omega arith) front (cut [] c z (omega arith) back).1 (IsUtf8-unquoted z (p ++ 10 ∷ [])))
        (λ _. cond_both (c == 116) _ _ (λ (x : ℕ). IsUtf8 (p ++ x ∷ unquoted esc q z))
        (λ (e : (c == 116) ≡ true). let same = eqb-true c 116 e in after p 9 z (unquoted esc q z) (omega arith) front (cut [] c z (omega arith) back).1 (IsUtf8-unquoted z (p ++ 9 ∷ [])))
        (λ _. past p c z (unquoted esc q z) (IsUtf8-append p (c ∷ z) front back) (IsUtf8-unquoted z (p ++ c ∷ []))))

pub IsUtf8-folded : (z p : List ℕ) → IsUtf8 (p ++ z) → IsUtf8 (p ++ map to_ascii_lowercase z)
IsUtf8-folded [] p u = u
IsUtf8-folded (b ∷ z) p u = ⊎_elim
    (λ (lt : b < 128). let parts = cut p b z lt u in after p (to_ascii_lowercase b) z (map to_ascii_lowercase z) (lowercase_ascii b lt) parts.0 parts.1 (IsUtf8-folded z (p ++ to_ascii_lowercase b ∷ [])))
    (λ (le : 128 ≤ b). let same : to_ascii_lowercase b ≡ b = (lowercase_is b).2 (omega arith) in
    subst (λ (x : ℕ). IsUtf8 (p ++ x ∷ map to_ascii_lowercase z)) (sym same) (past p b z (map to_ascii_lowercase z) u (IsUtf8-folded z (p ++ b ∷ []))))
    (cases_lt b 128)

-- ---- byte by byte

quote_ends : (esc : Bool) (q : ℕ) (z : List ℕ) → begins_with q z ≡ false → unquoted_quote esc q z ≡ []
unfolding unquoted
quote_ends esc q [] e = refl
quote_ends esc q (c ∷ z) e = rw e refl

quote_again : (esc : Bool) (q : ℕ) (z : List ℕ) → begins_with q z ≡ true → unquoted_quote esc q z ≡ q ∷ unquoted esc q (drop 1 z)
unfolding unquoted
quote_again esc q [] e = absurd (false≢true e)
quote_again esc q (c ∷ z) e = rw e refl

module _ (esc : Bool) (q b : ℕ) (z : List ℕ) where
  cons_quote : b ≡ q → unquoted esc q (b ∷ z) ≡ unquoted_quote esc q z
  unfolding unquoted
  cons_quote e = rw (eq-eqb b q e) refl

  cons_escape : b ≢ q → esc ≡ true → b ≡ 92 → unquoted esc q (b ∷ z) ≡ unquoted_escape esc q z
  unfolding unquoted
  cons_escape n e f = rw (ne_eqb b q n, e, eq-eqb b 92 f) refl

  cons_plain : b ≢ q → (esc && (b == 92)) ≡ false → unquoted esc q (b ∷ z) ≡ b ∷ unquoted esc q z
  unfolding unquoted
  cons_plain n e = rw (ne_eqb b q n, e) refl

escape_ends : (esc : Bool) (q : ℕ) (z : List ℕ) (i : ℕ) → length z ≤ i → unquoted_escape esc q (drop i z) ≡ []
unfolding unquoted
escape_ends esc q z i le = rw (drop_end z i le) refl

escape_at : (esc : Bool) (q : ℕ) (z : List ℕ) (i : ℕ) → i < length z → unquoted_escape esc q (drop i z) ≡ escaped (get_or z i 0) ∷ unquoted esc q (drop (i + 1) z)
unfolding unquoted
escape_at esc q z i lt = rw (split z i lt) refl

module _ (esc : Bool) (q : ℕ) (z : List ℕ) (i : ℕ) where
  pub unquoted_done : length z ≤ i → unquoted esc q (drop i z) ≡ []
  unfolding unquoted
  unquoted_done le = rw (drop_end z i le) refl

  module _ (lt : i < length z) where
    at_cons : (w : List ℕ) → unquoted esc q (get_or z i 0 ∷ drop (i + 1) z) ≡ w → unquoted esc q (drop i z) ≡ w
    at_cons w e = ap (λ (x : List ℕ). unquoted esc q x) (split z i lt) ∙ e

    pub unquoted_ends : get_or z i 0 ≡ q → begins_with q (drop (i + 1) z) ≡ false → unquoted esc q (drop i z) ≡ []
    unquoted_ends e f = at_cons _ (cons_quote esc q _ _ e ∙ quote_ends esc q _ f)

    pub unquoted_pair : get_or z i 0 ≡ q → begins_with q (drop (i + 1) z) ≡ true → unquoted esc q (drop i z) ≡ q ∷ unquoted esc q (drop (i + 2) z)
    unquoted_pair e f = at_cons _ (cons_quote esc q _ _ e ∙ quote_again esc q _ f ∙ ap (λ (w : List ℕ). q ∷ unquoted esc q w) (drop_second z i))

    pub unquoted_cut : get_or z i 0 ≢ q → esc ≡ true → get_or z i 0 ≡ 92 → length z ≤ i + 1 → unquoted esc q (drop i z) ≡ []
    unquoted_cut n e f le = at_cons _ (cons_escape esc q _ _ n e f ∙ escape_ends esc q z (i + 1) le)

    pub unquoted_mark : get_or z i 0 ≢ q → esc ≡ true → get_or z i 0 ≡ 92 → i + 1 < length z → unquoted esc q (drop i z) ≡ escaped (get_or z (i + 1) 0) ∷ unquoted esc q (drop (i + 2) z)
    unquoted_mark n e f l = at_cons _ (cons_escape esc q _ _ n e f ∙ escape_at esc q z (i + 1) l ∙ ap (λ (k : ℕ). escaped (get_or z (i + 1) 0) ∷ unquoted esc q (drop k z)) (let two : i + 1 + 1 ≡ i + 2 = omega arith in two))

    pub unquoted_plain : get_or z i 0 ≢ q → (esc && (get_or z i 0 == 92)) ≡ false → unquoted esc q (drop i z) ≡ get_or z i 0 ∷ unquoted esc q (drop (i + 1) z)
    unquoted_plain n e = at_cons _ (cons_plain esc q _ _ n e)

-- one more byte of a value
pub more : (all front rest : List ℕ) (b : ℕ) (w new : List ℕ) → all ≡ front ++ rest → rest ≡ b ∷ w → new ≡ front ++ b ∷ [] → all ≡ new ++ w
more all front rest b w new so_far step pushed = so_far ∙ ap (λ (x : List ℕ). front ++ x) step ∙ sym (append_assoc front (b ∷ []) w) ∙ ap (λ (x : List ℕ). x ++ w) (sym pushed)

-- the value where nothing is left
pub whole : (all front rest : List ℕ) → all ≡ front ++ rest → rest ≡ [] → front ≡ all
whole all front rest so_far none = sym (so_far ∙ ap (λ (x : List ℕ). front ++ x) none ∙ append-nil front)
