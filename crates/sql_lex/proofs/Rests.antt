-- Rests of a text: what stands from a place on.
use Rattle.std.proofs.Common.{◌≡◌, ℕ, ◌+◌, ◌<◌, ◌≤◌, true, false, List, [], ◌∷◌, length, get_or, drop, sym, ap, subst, ◌==◌, ◌∙◌, drop-cons, drop-drop, add-one, length-drop, arith, Result, Err}
use Rattle.std.proofs.lemmas.List.{nil_from_length}
use Rattle.std.proofs.lemmas.Bool.{false≢true, and_parts}
use Rattle.sql_lex.specs.Bytes.{begins_with, begins_with_pair, begins_escape}
use Rattle.sql_lex.specs.declared.token.Halt.{Halt}
use Rattle.sql_lex.specs.Separators.{Stop, stray}
use Rattle.sql_lex.specs.Offsets.{IsHaltIn, stop_of}

pub split : (z : List ℕ) (i : ℕ) → i < length z → drop i z ≡ get_or z i 0 ∷ drop (i + 1) z
split z i lt = rw add-one (drop-cons z i 0 lt)

pub drop_end : (z : List ℕ) (i : ℕ) → length z ≤ i → drop i z ≡ []
drop_end z i le = nil_from_length (drop i z) (omega (arith, length-drop i z))

pub drop_second : (z : List ℕ) (i : ℕ) → drop 1 (drop (i + 1) z) ≡ drop (i + 2) z
drop_second z i = drop-drop 1 (i + 1) z ∙ ap (λ (m : ℕ). drop m z) (let k : i + 1 + 1 ≡ i + 2 = omega arith in k)

-- the stop at a stray byte, by places
pub stray_at : (z : List ℕ) (i : ℕ) → i < length z → stray (get_or z i 0) (drop (i + 1) z) ≡ record { which = 3; stands = drop i z; unread = drop (i + 1) z }
stray_at z i lt = ap (λ (w : List ℕ). let s : Stop = record { which = 3; stands = w; unread = drop (i + 1) z } in s) (sym (split z i lt))

-- where a list begins with a byte, there is one
begins_with_some : (a : ℕ) (w : List ℕ) → begins_with a w ≡ true → 0 < length w
begins_with_some a [] e = absurd (false≢true e)
begins_with_some a (b ∷ w) e = omega arith

pub begins_with_at : (a : ℕ) (z : List ℕ) (i : ℕ) → begins_with a (drop i z) ≡ true → i < length z
begins_with_at a z i e = omega (arith, begins_with_some a (drop i z) e, length-drop i z)

begins_escape_some : (w : List ℕ) → begins_escape w ≡ true → 0 < length w
begins_escape_some [] e = absurd (false≢true e)
begins_escape_some (b ∷ w) e = omega arith

pub begins_escape_at : (z : List ℕ) (i : ℕ) → begins_escape (drop i z) ≡ true → i < length z
begins_escape_at z i e = omega (arith, begins_escape_some (drop i z) e, length-drop i z)

begins_with_pair_some : (a d : ℕ) (w : List ℕ) → begins_with_pair a d w ≡ true → 1 < length w
begins_with_pair_some a d [] e = absurd (false≢true e)
begins_with_pair_some a d (b ∷ []) e = absurd (false≢true (and_parts (b == a) false e).1)
begins_with_pair_some a d (b ∷ c ∷ w) e = omega arith

pub begins_with_pair_at : (a d : ℕ) (z : List ℕ) (i : ℕ) → begins_with_pair a d (drop i z) ≡ true → i + 1 < length z
begins_with_pair_at a d z i e = omega (arith, begins_with_pair_some a d (drop i z) e, length-drop i z)

-- what a stop is by places, at a stray byte and where something has no end
module _ (z : List ℕ) {A : Type 0} (wanted : Result A Stop) (halt : Halt) where
  given : (same : Halt) → halt ≡ same → IsHaltIn z same × (wanted ≡ Err (stop_of z same)) → IsHaltIn z halt × (wanted ≡ Err (stop_of z halt))
  given same e p = let P : Halt → Type 0 = λ h. IsHaltIn z h × (wanted ≡ Err (stop_of z h)) in subst P (sym e) p

  pub is_stray : (i : ℕ) → halt ≡ record { which = 3; stands = i; unread = i + 1 } → i < length z → wanted ≡ Err (record { which = 3; stands = drop i z; unread = drop (i + 1) z })
      → IsHaltIn z halt × (wanted ≡ Err (stop_of z halt))
  is_stray i e lt s = given _ e ((omega arith, omega arith), s)

  pub is_unterminated : (number i : ℕ) → halt ≡ record { which = number; stands = i; unread = length z } → i ≤ length z → wanted ≡ Err (record { which = number; stands = drop i z; unread = [] })
      → IsHaltIn z halt × (wanted ≡ Err (stop_of z halt))
  is_unterminated number i e le s = given _ e ((le, omega arith), s ∙ ap (λ (w : List ℕ). Err (let t : Stop = record { which = number; stands = drop i z; unread = w } in t)) (sym (drop_end z (length z) (omega arith))))
