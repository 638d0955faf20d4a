-- What separates tokens, byte by byte.
use Rattle.std.proofs.Common.{◌≡◌, ◌≢◌, ℕ, ◌+◌, ◌-◌, ◌<◌, ◌≤◌, suc, Bool, true, false, ◌&&◌, ◌==◌, List, [], ◌∷◌, length, get_or, drop, refl, sym, ap, ◌∙◌, Result, Ok, Err, eq-eqb, add-one}
use borrow.Author.Tests.{ne_eqb}
use Rattle.std.proofs.lemmas.Bool.{false≢true, and_parts}
use Rattle.sql_lex.specs.Faults.{unterminated_comment}
use Rattle.sql_lex.specs.Bytes.{is_blank, is_line_end, begins_with_pair}
use Rattle.sql_lex.specs.Separators.{Stop, unterminated, stray, after_separators, after_line, after_comment}
use Rattle.sql_lex.proofs.Rests.{split, drop_end, drop_second, stray_at}

no_second : (b a : ℕ) → ((b == a) && false) ≡ true → ⊥
no_second b a e = false≢true (and_parts (b == a) false e).1

pub cons_blank : (b : ℕ) (z : List ℕ) → is_blank b ≡ true → after_separators (b ∷ z) ≡ after_separators z
unfolding after_separators
cons_blank b [] e = rw e refl
cons_blank b (c ∷ z) e = rw e refl

pub cons_line : (b : ℕ) (z : List ℕ) → is_blank b ≡ false → begins_with_pair 45 45 (b ∷ z) ≡ true → after_separators (b ∷ z) ≡ after_line (drop 1 z)
unfolding after_separators
cons_line b [] e f = absurd (no_second b 45 f)
cons_line b (c ∷ z) e f = rw (e, f) refl

pub cons_comment : (b : ℕ) (z : List ℕ) → is_blank b ≡ false → begins_with_pair 45 45 (b ∷ z) ≡ false → begins_with_pair 47 42 (b ∷ z) ≡ true → after_separators (b ∷ z) ≡ after_comment (b ∷ z) 0 (drop 1 z)
unfolding after_separators
cons_comment b [] e f g = absurd (no_second b 47 g)
cons_comment b (c ∷ z) e f g = rw (e, f, g) refl

cons_other : (b : ℕ) (z : List ℕ) → is_blank b ≡ false → begins_with_pair 45 45 (b ∷ z) ≡ false → begins_with_pair 47 42 (b ∷ z) ≡ false → after_separators (b ∷ z) ≡ Ok (b ∷ z)
unfolding after_separators
cons_other b [] e f g = rw e refl
cons_other b (c ∷ z) e f g = rw (e, f, g) refl

pub line_cons_end : (b : ℕ) (z : List ℕ) → is_line_end b ≡ true → after_line (b ∷ z) ≡ after_separators z
unfolding after_separators
line_cons_end b z e = rw e refl

line_cons_stray : (b : ℕ) (z : List ℕ) → is_line_end b ≡ false → b ≡ 0 → after_line (b ∷ z) ≡ Err (stray b z)
unfolding after_separators
line_cons_stray b z e f = rw (e, eq-eqb b 0 f) refl

pub line_cons : (b : ℕ) (z : List ℕ) → is_line_end b ≡ false → b ≢ 0 → after_line (b ∷ z) ≡ after_line z
unfolding after_separators
line_cons b z e f = rw (e, ne_eqb b 0 f) refl

module _ (whole : List ℕ) (depth b : ℕ) where
  comment_cons_stray : (z : List ℕ) → b ≡ 0 → after_comment whole depth (b ∷ z) ≡ Err (stray b z)
  unfolding after_separators
  comment_cons_stray [] e = rw (eq-eqb b 0 e) refl
  comment_cons_stray (c ∷ z) e = rw (eq-eqb b 0 e) refl

  pub comment_cons_closes : (z : List ℕ) → b ≢ 0 → begins_with_pair 42 47 (b ∷ z) ≡ true → depth ≡ 0 → after_comment whole depth (b ∷ z) ≡ after_separators (drop 1 z)
  unfolding after_separators
  comment_cons_closes [] n e d = absurd (no_second b 42 e)
  comment_cons_closes (c ∷ z) n e d = rw (ne_eqb b 0 n, e, eq-eqb depth 0 d) refl

  pub comment_cons_leaves : (z : List ℕ) → b ≢ 0 → begins_with_pair 42 47 (b ∷ z) ≡ true → depth ≢ 0 → after_comment whole depth (b ∷ z) ≡ after_comment whole (depth - 1) (drop 1 z)
  unfolding after_separators
  comment_cons_leaves [] n e d = absurd (no_second b 42 e)
  comment_cons_leaves (c ∷ z) n e d = rw (ne_eqb b 0 n, e, ne_eqb depth 0 d) refl

  pub comment_cons_enters : (z : List ℕ) → b ≢ 0 → begins_with_pair 42 47 (b ∷ z) ≡ false → begins_with_pair 47 42 (b ∷ z) ≡ true → after_comment whole depth (b ∷ z) ≡ after_comment whole (suc depth) (drop 1 z)
  unfolding after_separators
  comment_cons_enters [] n e f = absurd (no_second b 47 f)
  comment_cons_enters (c ∷ z) n e f = rw (ne_eqb b 0 n, e, f) refl

  pub comment_cons : (z : List ℕ) → b ≢ 0 → begins_with_pair 42 47 (b ∷ z) ≡ false → begins_with_pair 47 42 (b ∷ z) ≡ false → after_comment whole depth (b ∷ z) ≡ after_comment whole depth z
  unfolding after_separators
  comment_cons [] n e f = rw (ne_eqb b 0 n) refl
  comment_cons (c ∷ z) n e f = rw (ne_eqb b 0 n, e, f) refl

module _ (z : List ℕ) (i : ℕ) where
  at_cons : (F : List ℕ → Result (List ℕ) Stop) → i < length z → (r : Result (List ℕ) Stop) → F (get_or z i 0 ∷ drop (i + 1) z) ≡ r → F (drop i z) ≡ r
  at_cons F lt r e = ap F (split z i lt) ∙ e

  -- a test of the rest, as one of its first byte and what is after that
  opened : (a d : ℕ) (t : Bool) → i < length z → begins_with_pair a d (drop i z) ≡ t → begins_with_pair a d (get_or z i 0 ∷ drop (i + 1) z) ≡ t
  opened a d t lt e = ap (begins_with_pair a d) (sym (split z i lt)) ∙ e

  pub separators_done : length z ≤ i → after_separators (drop i z) ≡ Ok (drop i z)
  unfolding after_separators
  separators_done le = rw (drop_end z i le) refl

  pub separators_blank : i < length z → is_blank (get_or z i 0) ≡ true → after_separators (drop i z) ≡ after_separators (drop (i + 1) z)
  separators_blank lt e = at_cons after_separators lt _ (cons_blank _ _ e)

  pub separators_line : i < length z → is_blank (get_or z i 0) ≡ false → begins_with_pair 45 45 (drop i z) ≡ true → after_separators (drop i z) ≡ after_line (drop (i + 2) z)
  separators_line lt e f = at_cons after_separators lt _ (cons_line _ _ e (opened 45 45 true lt f) ∙ ap after_line (drop_second z i))

  pub separators_comment : i < length z → is_blank (get_or z i 0) ≡ false → begins_with_pair 45 45 (drop i z) ≡ false → begins_with_pair 47 42 (drop i z) ≡ true → after_separators (drop i z) ≡ after_comment (drop i z) 0 (drop (i + 2) z)
  separators_comment lt e f g = at_cons after_separators lt _ (cons_comment _ _ e (opened 45 45 false lt f) (opened 47 42 true lt g)
      ∙ ap (λ (w : List ℕ). after_comment w 0 (drop 1 (drop (i + 1) z))) (sym (split z i lt)) ∙ ap (λ (w : List ℕ). after_comment (drop i z) 0 w) (drop_second z i))

  pub separators_end : i < length z → is_blank (get_or z i 0) ≡ false → begins_with_pair 45 45 (drop i z) ≡ false → begins_with_pair 47 42 (drop i z) ≡ false → after_separators (drop i z) ≡ Ok (drop i z)
  separators_end lt e f g = at_cons after_separators lt _ (cons_other _ _ e (opened 45 45 false lt f) (opened 47 42 false lt g) ∙ ap Ok (sym (split z i lt)))

  pub line_done : length z ≤ i → after_line (drop i z) ≡ after_separators (drop i z)
  unfolding after_separators
  line_done le = rw (drop_end z i le) refl

  pub line_ends : i < length z → is_line_end (get_or z i 0) ≡ true → after_line (drop i z) ≡ after_separators (drop (i + 1) z)
  line_ends lt e = at_cons after_line lt _ (line_cons_end _ _ e)

  pub line_stray : i < length z → is_line_end (get_or z i 0) ≡ false → get_or z i 0 ≡ 0 → after_line (drop i z) ≡ Err (record { which = 3; stands = drop i z; unread = drop (i + 1) z })
  line_stray lt e f = at_cons after_line lt _ (line_cons_stray _ _ e f ∙ ap Err (stray_at z i lt))

  pub line_goes_on : i < length z → is_line_end (get_or z i 0) ≡ false → get_or z i 0 ≢ 0 → after_line (drop i z) ≡ after_line (drop (i + 1) z)
  line_goes_on lt e f = at_cons after_line lt _ (line_cons _ _ e f)

module _ (whole : List ℕ) (depth : ℕ) (z : List ℕ) (i : ℕ) where
  pub comment_unterminated : length z ≤ i → after_comment whole depth (drop i z) ≡ Err (unterminated unterminated_comment whole)
  unfolding after_separators
  comment_unterminated le = rw (drop_end z i le) refl

  pub comment_stray : i < length z → get_or z i 0 ≡ 0 → after_comment whole depth (drop i z) ≡ Err (record { which = 3; stands = drop i z; unread = drop (i + 1) z })
  comment_stray lt e = at_cons z i (after_comment whole depth) lt _ (comment_cons_stray whole depth _ _ e ∙ ap Err (stray_at z i lt))

  pub comment_closes : i < length z → get_or z i 0 ≢ 0 → begins_with_pair 42 47 (drop i z) ≡ true → depth ≡ 0 → after_comment whole depth (drop i z) ≡ after_separators (drop (i + 2) z)
  comment_closes lt n e d = at_cons z i (after_comment whole depth) lt _ (comment_cons_closes whole depth _ _ n (opened z i 42 47 true lt e) d ∙ ap after_separators (drop_second z i))

  pub comment_leaves : i < length z → get_or z i 0 ≢ 0 → begins_with_pair 42 47 (drop i z) ≡ true → depth ≢ 0 → after_comment whole depth (drop i z) ≡ after_comment whole (depth - 1) (drop (i + 2) z)
  comment_leaves lt n e d = at_cons z i (after_comment whole depth) lt _ (comment_cons_leaves whole depth _ _ n (opened z i 42 47 true lt e) d ∙ ap (after_comment whole (depth - 1)) (drop_second z i))

  pub comment_enters : i < length z → get_or z i 0 ≢ 0 → begins_with_pair 42 47 (drop i z) ≡ false → begins_with_pair 47 42 (drop i z) ≡ true → after_comment whole depth (drop i z) ≡ after_comment whole (depth + 1) (drop (i + 2) z)
  comment_enters lt n e f = at_cons z i (after_comment whole depth) lt _ (comment_cons_enters whole depth _ _ n (opened z i 42 47 false lt e) (opened z i 47 42 true lt f)
      ∙ ap (after_comment whole (suc depth)) (drop_second z i) ∙ ap (λ (d : ℕ). after_comment whole d (drop (i + 2) z)) (sym (add-one depth)))

  pub comment_goes_on : i < length z → get_or z i 0 ≢ 0 → begins_with_pair 42 47 (drop i z) ≡ false → begins_with_pair 47 42 (drop i z) ≡ false → after_comment whole depth (drop i z) ≡ after_comment whole depth (drop (i + 1) z)
  comment_goes_on lt n e f = at_cons z i (after_comment whole depth) lt _ (comment_cons whole depth _ _ n (opened z i 42 47 false lt e) (opened z i 47 42 false lt f))
