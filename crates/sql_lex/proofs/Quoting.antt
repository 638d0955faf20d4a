-- What the lexer takes for a text between quotes is one by the grammar, and stands for what the grammar says.
use Rattle.std.proofs.Common.{◌≡◌, ◌≢◌, inl, inr, ℕ, ◌≤◌, Bool, true, false, ◌&&◌, ◌==◌, List, [], ◌∷◌, ◌++◌, length, length-append, refl, sym, ap, subst, ◌∙◌, arith, Result, Ok, Err, eq-eqb}
use borrow.Author.Tests.{eqb-true, eqb-false, ne_eqb}
use Rattle.std.proofs.lemmas.Bool.{false≢true, and_parts}
use Rattle.std.proofs.lemmas.Bool.Decides.{nat_tests}
use Rattle.sql_lex.specs.Bytes.{is_escape}
use Rattle.sql_lex.specs.Faults.{unterminated_text}
use Rattle.sql_lex.specs.Separators.{Stop, unterminated, stray}
use Rattle.sql_lex.specs.Quoted.{after_quoted, after_quote, after_backslash}
use Rattle.sql_lex.specs.Value.{escaped, unquoted}
use Rattle.sql_lex.specs.Grammar.{BeginsSo, IsEscape, HasMeaning, IsQuoted, is_nothing, is_character, is_pair, is_escape as is_escape_of}
use Rattle.sql_lex.proofs.Shapes.{cond_is, err_ok, ok_same}
use Rattle.sql_lex.proofs.Separating.{zero_here, ok_err, err_same, not_zero}

-- ---- escapes

pub escape_means : (c : ℕ) → is_escape c ≡ true → IsEscape c (escaped c)
escape_means c e = grind (arith, nat_tests)

pub escape_value : (c v : ℕ) → IsEscape c v → (is_escape c ≡ true) × (escaped c ≡ v)
escape_value c v h = (grind (arith, nat_tests), grind (arith, nat_tests))

no_meaning : (c : ℕ) → is_escape c ≡ false → HasMeaning c → ⊥
no_meaning c e h = false≢true (sym e ∙ (escape_value c h.0 h.1).0)

no_plain : (esc : Bool) (b : ℕ) → (esc && (b == 92)) ≡ false → esc ≡ true → b ≢ 92
no_plain esc b e t k = false≢true (sym e ∙ ap (λ (x : Bool). x && (b == 92)) t ∙ eq-eqb b 92 k)

-- ---- a text with its closing quote

pub record IsClosed (esc : Bool) (q : ℕ) (z rest : List ℕ) : Type 0 where
  pub inner : List ℕ
  pub value : List ℕ
  pub split : z ≡ inner ++ q ∷ rest
  pub quoted : IsQuoted esc q inner value

module _ (esc : Bool) (q : ℕ) where
  closed_here : (b : ℕ) (z rest : List ℕ) → b ≡ q → z ≡ rest → IsClosed esc q (b ∷ z) rest
  closed_here b z rest k e = record { inner = []; value = []; split = ap (λ (x : ℕ). x ∷ z) k ∙ ap (λ (w : List ℕ). q ∷ w) e; quoted = is_nothing }

  closed_pair : (b c : ℕ) (z rest : List ℕ) → b ≡ q → c ≡ q → IsClosed esc q z rest → IsClosed esc q (b ∷ c ∷ z) rest
  closed_pair b c z rest k l r =
      let both : b ∷ c ∷ z ≡ q ∷ q ∷ z = ap (λ (x : ℕ). x ∷ c ∷ z) k ∙ ap (λ (x : ℕ). q ∷ x ∷ z) l in
      record { inner = q ∷ q ∷ r.inner; value = q ∷ r.value; split = both ∙ ap (λ (w : List ℕ). q ∷ q ∷ w) r.split; quoted = is_pair r.inner r.value r.quoted }

  closed_character : (b : ℕ) (z rest : List ℕ) → b ≢ 0 → b ≢ q → (esc ≡ true → b ≢ 92) → IsClosed esc q z rest → IsClosed esc q (b ∷ z) rest
  closed_character b z rest n m p r =
      record { inner = b ∷ r.inner; value = b ∷ r.value; split = ap (λ (w : List ℕ). b ∷ w) r.split; quoted = is_character b r.inner r.value n m p r.quoted }

  closed_escape : (b c : ℕ) (z rest : List ℕ) → esc ≡ true → b ≡ 92 → is_escape c ≡ true → IsClosed esc q z rest → IsClosed esc q (b ∷ c ∷ z) rest
  closed_escape b c z rest t k e r = record {
    inner = 92 ∷ c ∷ r.inner;
    value = escaped c ∷ r.value;
    split = ap (λ (x : ℕ). x ∷ c ∷ z) k ∙ ap (λ (w : List ℕ). 92 ∷ c ∷ w) r.split;
    quoted = is_escape_of c (escaped c) r.inner r.value t (escape_means c e) r.quoted;
  }

  module _ (whole : List ℕ) where
    mutual
      unfolding after_quoted

      pub quoted_closed : (z rest : List ℕ) → after_quoted whole esc q z ≡ Ok rest → IsClosed esc q z rest
      quoted_closed [] rest e = absurd (err_ok _ _ e)
      quoted_closed (b ∷ z) rest e = elim (cond_is (b == 0) _ _ _ e) [
        | inl stop ↦ absurd (err_ok _ _ stop.1)
        | inr seen ↦ elim (cond_is (b == q) _ _ _ seen.1) [
          | inl h ↦ closed_after z b rest (eqb-true b q h.0) h.1
          | inr other ↦ elim (cond_is (esc && (b == 92)) _ _ _ other.1) [
            | inl h ↦ let p = and_parts esc (b == 92) h.0 in closed_backslash z b rest p.0 (eqb-true b 92 p.1) h.1
            | inr h ↦ closed_character b z rest (not_zero b seen.0) (eqb-false b q other.0) (no_plain esc b h.0) (quoted_closed z rest h.1)
          ]
        ]
      ]

      closed_after : (z : List ℕ) (b : ℕ) (rest : List ℕ) → b ≡ q → after_quote whole esc q z ≡ Ok rest → IsClosed esc q (b ∷ z) rest
      closed_after [] b rest k e = closed_here b [] rest k (ok_same _ _ e)
      closed_after (c ∷ z) b rest k e = elim (cond_is (c == q) _ _ _ e) [
        | inl h ↦ closed_pair b c z rest k (eqb-true c q h.0) (quoted_closed z rest h.1)
        | inr h ↦ closed_here b (c ∷ z) rest k (ok_same _ _ h.1)
      ]

      closed_backslash : (z : List ℕ) (b : ℕ) (rest : List ℕ) → esc ≡ true → b ≡ 92 → after_backslash whole esc q b z ≡ Ok rest → IsClosed esc q (b ∷ z) rest
      closed_backslash [] b rest t k e = absurd (err_ok _ _ e)
      closed_backslash (c ∷ z) b rest t k e = elim (cond_is (is_escape c) _ _ _ e) [
        | inl h ↦ closed_escape b c z rest t k h.0 (quoted_closed z rest h.1)
        | inr stop ↦ absurd (err_ok _ _ stop.1)
      ]

-- ---- a text that stops

pub data IsCut (whole : List ℕ) (s : Stop) (esc : Bool) : List ℕ → Type 0 where
  cut_at_end : unterminated unterminated_text whole ≡ s → IsCut whole s esc []
  cut_at_zero : (v : List ℕ) → stray 0 v ≡ s → IsCut whole s esc (0 ∷ v)
  cut_at_escape : (v : List ℕ) → esc ≡ true → (BeginsSo HasMeaning v → ⊥) → stray 92 v ≡ s → IsCut whole s esc (92 ∷ v)

pub record IsCutShort (whole : List ℕ) (s : Stop) (esc : Bool) (q : ℕ) (z : List ℕ) : Type 0 where
  pub inner : List ℕ
  pub value : List ℕ
  pub next : List ℕ
  pub split : z ≡ inner ++ next
  pub quoted : IsQuoted esc q inner value
  pub cut : IsCut whole s esc next

module _ (whole : List ℕ) (s : Stop) (esc : Bool) (q : ℕ) where
  cut_here : (z : List ℕ) → IsCut whole s esc z → IsCutShort whole s esc q z
  cut_here z c = record { inner = []; value = []; next = z; split = refl; quoted = is_nothing; cut = c }

  cut_pair : (b c : ℕ) (z : List ℕ) → b ≡ q → c ≡ q → IsCutShort whole s esc q z → IsCutShort whole s esc q (b ∷ c ∷ z)
  cut_pair b c z k l r =
      let both : b ∷ c ∷ z ≡ q ∷ q ∷ z = ap (λ (x : ℕ). x ∷ c ∷ z) k ∙ ap (λ (x : ℕ). q ∷ x ∷ z) l in
      record { inner = q ∷ q ∷ r.inner; value = q ∷ r.value; next = r.next; split = both ∙ ap (λ (w : List ℕ). q ∷ q ∷ w) r.split; quoted = is_pair r.inner r.value r.quoted; cut = r.cut }

  cut_character : (b : ℕ) (z : List ℕ) → b ≢ 0 → b ≢ q → (esc ≡ true → b ≢ 92) → IsCutShort whole s esc q z → IsCutShort whole s esc q (b ∷ z)
  cut_character b z n m p r =
      record { inner = b ∷ r.inner; value = b ∷ r.value; next = r.next; split = ap (λ (w : List ℕ). b ∷ w) r.split; quoted = is_character b r.inner r.value n m p r.quoted; cut = r.cut }

  cut_escape : (b c : ℕ) (z : List ℕ) → esc ≡ true → b ≡ 92 → is_escape c ≡ true → IsCutShort whole s esc q z → IsCutShort whole s esc q (b ∷ c ∷ z)
  cut_escape b c z t k e r = record {
    inner = 92 ∷ c ∷ r.inner;
    value = escaped c ∷ r.value;
    next = r.next;
    split = ap (λ (x : ℕ). x ∷ c ∷ z) k ∙ ap (λ (w : List ℕ). 92 ∷ c ∷ w) r.split;
    quoted = is_escape_of c (escaped c) r.inner r.value t (escape_means c e) r.quoted;
    cut = r.cut;
  }

  cut_zero : (b : ℕ) (z : List ℕ) → (b == 0) ≡ true → Err (stray b z) ≡ (let r : Result (List ℕ) Stop = Err s in r) → IsCutShort whole s esc q (b ∷ z)
  cut_zero b z e h = let p = zero_here b z s e h in cut_here (b ∷ z) (subst (λ (x : ℕ). IsCut whole s esc (x ∷ z)) (sym p.0) (cut_at_zero z p.1))

  cut_slash : (b : ℕ) (z : List ℕ) → esc ≡ true → b ≡ 92 → (BeginsSo HasMeaning z → ⊥) → Err (stray b z) ≡ (let r : Result (List ℕ) Stop = Err s in r) → IsCutShort whole s esc q (b ∷ z)
  cut_slash b z t k n h =
      cut_here (b ∷ z) (subst (λ (x : ℕ). IsCut whole s esc (x ∷ z)) (sym k) (cut_at_escape z t n (ap (λ (x : ℕ). stray x z) (sym k) ∙ err_same _ _ h)))

  mutual
    unfolding after_quoted

    pub quoted_cut : (z : List ℕ) → after_quoted whole esc q z ≡ Err s → IsCutShort whole s esc q z
    quoted_cut [] e = cut_here [] (cut_at_end (err_same _ _ e))
    quoted_cut (b ∷ z) e = elim (cond_is (b == 0) _ _ _ e) [
      | inl h ↦ cut_zero b z h.0 h.1
      | inr seen ↦ elim (cond_is (b == q) _ _ _ seen.1) [
        | inl h ↦ cut_after z b (eqb-true b q h.0) h.1
        | inr other ↦ elim (cond_is (esc && (b == 92)) _ _ _ other.1) [
          | inl h ↦ let p = and_parts esc (b == 92) h.0 in cut_backslash z b p.0 (eqb-true b 92 p.1) h.1
          | inr h ↦ cut_character b z (not_zero b seen.0) (eqb-false b q other.0) (no_plain esc b h.0) (quoted_cut z h.1)
        ]
      ]
    ]

    cut_after : (z : List ℕ) (b : ℕ) → b ≡ q → after_quote whole esc q z ≡ Err s → IsCutShort whole s esc q (b ∷ z)
    cut_after [] b k e = absurd (ok_err _ _ e)
    cut_after (c ∷ z) b k e = elim (cond_is (c == q) _ _ _ e) [
      | inl h ↦ cut_pair b c z k (eqb-true c q h.0) (quoted_cut z h.1)
      | inr h ↦ absurd (ok_err _ _ h.1)
    ]

    cut_backslash : (z : List ℕ) (b : ℕ) → esc ≡ true → b ≡ 92 → after_backslash whole esc q b z ≡ Err s → IsCutShort whole s esc q (b ∷ z)
    cut_backslash [] b t k e = cut_slash b [] t k (λ h. h) e
    cut_backslash (c ∷ z) b t k e = elim (cond_is (is_escape c) _ _ _ e) [
      | inl h ↦ cut_escape b c z t k h.0 (quoted_cut z h.1)
      | inr h ↦ cut_slash b (c ∷ z) t k (no_meaning c h.0) h.1
    ]

-- ---- what it stands for, and that no longer one stands there

plain_test : (esc : Bool) (b : ℕ) → (esc ≡ true → b ≢ 92) → (esc && (b == 92)) ≡ false
plain_test true b p = ne_eqb b 92 (p refl)
plain_test false b p = refl

module _ (esc : Bool) (q : ℕ) (some : q ≢ 0) (other : q ≢ 92) where
  pub quoted_value : (inner value : List ℕ) → IsQuoted esc q inner value → unquoted esc q (inner ++ q ∷ []) ≡ value
  unfolding unquoted
  quoted_value _ _ is_nothing = rw (eq-eqb q q refl) refl
  quoted_value _ _ (is_character b text value n m p h) =
      let plain : (esc && (b == 92)) ≡ false = plain_test esc b p in
      rw (ne_eqb b q m, plain) (ap (λ (w : List ℕ). b ∷ w) (quoted_value text value h))
  quoted_value _ _ (is_pair text value h) = rw (eq-eqb q q refl) (ap (λ (w : List ℕ). q ∷ w) (quoted_value text value h))
  quoted_value _ _ (is_escape_of c v text value t e h) =
      let n : 92 ≢ q = λ (k : 92 ≡ q). other (sym k) in
      let marked : (esc && (92 == 92)) ≡ true = ap (λ (x : Bool). x && (92 == 92)) t in
      rw (ne_eqb 92 q n, marked) (ap (λ (x : ℕ). x ∷ unquoted esc q (text ++ q ∷ [])) (escape_value c v e).1 ∙ ap (λ (w : List ℕ). v ∷ w) (quoted_value text value h))

  pub quoted_passes : (whole inner value z : List ℕ) → IsQuoted esc q inner value → after_quoted whole esc q (inner ++ z) ≡ after_quoted whole esc q z
  unfolding after_quoted
  quoted_passes whole _ _ z is_nothing = refl
  quoted_passes whole _ _ z (is_character b text value n m p h) =
      let plain : (esc && (b == 92)) ≡ false = plain_test esc b p in
      rw (ne_eqb b 0 n, ne_eqb b q m, plain) (quoted_passes whole text value z h)
  quoted_passes whole _ _ z (is_pair text value h) = rw (ne_eqb q 0 some, eq-eqb q q refl) (quoted_passes whole text value z h)
  quoted_passes whole _ _ z (is_escape_of c v text value t e h) =
      let n : 92 ≢ q = λ (k : 92 ≡ q). other (sym k) in
      let marked : (esc && (92 == 92)) ≡ true = ap (λ (x : Bool). x && (92 == 92)) t in
      rw (ne_eqb 92 q n, marked, (escape_value c v e).0) (quoted_passes whole text value z h)

  quote_short : (whole z rest : List ℕ) → after_quote whole esc q z ≡ Ok rest → length rest ≤ length z
  unfolding after_quoted
  quote_short whole [] rest e = omega (arith, ap length (ok_same _ _ e))
  quote_short whole (c ∷ z) rest e = elim (cond_is (c == q) _ _ _ e) [
    | inl h ↦ let r = quoted_closed esc q whole z rest h.1 in omega (arith, ap length r.split, length-append r.inner (q ∷ rest))
    | inr h ↦ omega (arith, ap length (ok_same _ _ h.1))
  ]

  pub quoted_longest : (whole inner value rest after : List ℕ) → IsQuoted esc q inner value → after_quoted whole esc q (inner ++ q ∷ rest) ≡ Ok after → length after ≤ length rest
  unfolding after_quoted
  quoted_longest whole inner value rest after h e =
      let f : after_quoted whole esc q (q ∷ rest) ≡ after_quote whole esc q rest = rw (ne_eqb q 0 some, eq-eqb q q refl) refl in
      quote_short whole rest after (sym f ∙ sym (quoted_passes whole inner value (q ∷ rest) h) ∙ e)
