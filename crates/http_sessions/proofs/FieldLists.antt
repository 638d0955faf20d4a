-- Fields as spans and as pairs, the parts between commas, and numbers.
use Rattle.std.proofs.Common.{◌≡◌, ℕ, suc, ◌+◌, ◌-◌, ◌*◌, ◌<◌, ◌≤◌, Bool, true, false, cond, not, ◌||◌, ◌≢◌, eqb, ltb, List, [], ◌∷◌, length, take, drop, get_or, map, refl, sym, ap, ◌∙◌, subst, Result, Ok, Err, inl, inr, length-drop, arith}
use Rattle.std.specs.List.{list_any, prefix_len}
use Rattle.std.proofs.lemmas.List.{take_all, length-take, drop-drop, at_drop_more}
use Rattle.std.proofs.lemmas.Bool.{cases_lt}
use Rattle.std.proofs.lemmas.Bool.Decides.{nat_tests}
use Rattle.http_sessions.specs.declared.refusal.Refusal.TheVariants.{BodyTooLarge}
use Rattle.http_sessions.specs.HeadTests.{is_no_comma, between_commas, with_first, is_close, has_close, number_from, within_limit}

part_here : (b : ℕ) (z : List ℕ) (t : Bool) → eqb b 44 ≡ t → (prefix_len is_no_comma z ≡ length z → between_commas z ≡ z ∷ []) → prefix_len is_no_comma (b ∷ z) ≡ suc (length z) → between_commas (b ∷ z) ≡ (b ∷ z) ∷ []
part_here b z true e go n = let l : 0 ≡ suc (length z) = sym (ap (λ v. cond (not v) (1 + prefix_len is_no_comma z) 0) e) ∙ n in absurd (omega arith)
part_here b z false e go n =
    let l : 1 + prefix_len is_no_comma z ≡ suc (length z) = sym (ap (λ v. cond (not v) (1 + prefix_len is_no_comma z) 0) e) ∙ n in
    ap (λ v. cond v ([] ∷ between_commas z) (with_first b (between_commas z))) e ∙ ap (with_first b) (go (omega arith))

-- no comma is left
pub last_part : (z : List ℕ) → prefix_len is_no_comma z ≡ length z → between_commas z ≡ z ∷ []
last_part [] n = refl
last_part (b ∷ z) n = part_here b z (eqb b 44) refl (last_part z) n

part_there : (b : ℕ) (z : List ℕ) (t : Bool) → eqb b 44 ≡ t
    → (prefix_len is_no_comma z < length z → between_commas z ≡ take (prefix_len is_no_comma z) z ∷ between_commas (drop (suc (prefix_len is_no_comma z)) z))
    → (n : ℕ) → n ≡ prefix_len is_no_comma (b ∷ z) → n < suc (length z) → between_commas (b ∷ z) ≡ take n (b ∷ z) ∷ between_commas (drop (suc n) (b ∷ z))
part_there b z true e go n is lt =
    let k : n ≡ 0 = is ∙ ap (λ v. cond (not v) (1 + prefix_len is_no_comma z) 0) e in
    ap (λ v. cond v ([] ∷ between_commas z) (with_first b (between_commas z))) e ∙ sym (ap (λ m. take m (b ∷ z) ∷ between_commas (drop (suc m) (b ∷ z))) k)
part_there b z false e go n is lt =
    let k : n ≡ 1 + prefix_len is_no_comma z = is ∙ ap (λ v. cond (not v) (1 + prefix_len is_no_comma z) 0) e in
    let s : n ≡ suc (prefix_len is_no_comma z) = omega arith in
    ap (λ v. cond v ([] ∷ between_commas z) (with_first b (between_commas z))) e ∙ ap (with_first b) (go (omega arith)) ∙ sym (ap (λ m. take m (b ∷ z) ∷ between_commas (drop (suc m) (b ∷ z))) s)

-- the part before a comma, and those after it
pub next_part : (z : List ℕ) → prefix_len is_no_comma z < length z → between_commas z ≡ take (prefix_len is_no_comma z) z ∷ between_commas (drop (suc (prefix_len is_no_comma z)) z)
next_part [] lt = absurd (omega arith)
next_part (b ∷ z) lt = part_there b z (eqb b 44) refl (next_part z) (prefix_len is_no_comma (b ∷ z)) refl lt

-- ---- the loop over parts

any_one : (p : List ℕ) → list_any is_close (p ∷ []) ≡ (is_close p || false)
any_one p = refl

module _ (value rest part : List ℕ) (at : ℕ) (within : at ≤ length value) (rest_is : rest ≡ drop at value)
    (part_is : part ≡ take (prefix_len is_no_comma rest) rest) (size : length part ≡ prefix_len is_no_comma rest) (same : has_close (drop at value) ≡ has_close value) where
  closes_of : has_close rest ≡ has_close value
  closes_of = ap has_close rest_is ∙ same

  size_of_rest : length rest ≡ length value - at
  size_of_rest = ap (λ (l : List ℕ). length l) rest_is ∙ length-drop at value

  one_part : length part ≡ length rest → has_close rest ≡ (is_close part || false)
  one_part whole =
      let n : prefix_len is_no_comma rest ≡ length rest = sym size ∙ whole in
      let e : part ≡ rest = part_is ∙ take_all _ rest (omega (arith, n)) in
      ap (list_any is_close) (last_part rest n ∙ ap (λ (l : List ℕ). l ∷ []) (sym e))

  more_parts : length part < length rest → has_close rest ≡ (is_close part || has_close (drop (suc (length part)) rest))
  more_parts lt =
      let n : prefix_len is_no_comma rest < length rest = omega (arith, size) in
      ap (list_any is_close) (next_part rest n ∙ ap (λ (l : List ℕ). l ∷ between_commas (drop (suc (prefix_len is_no_comma rest)) rest)) (sym part_is) ∙ ap (λ k. part ∷ between_commas (drop (suc k) rest)) (sym size))

  fits : length part ≤ length rest
  fits = let m = length-take (prefix_len is_no_comma rest) rest in let e = ap (λ (l : List ℕ). length l) part_is in omega (arith, m, e)

  pub found : is_close part ≡ true → true ≡ has_close value
  found is_so = elim (cases_lt (length part) (length rest)) [
    | inr le ↦ sym (ap (λ b. b || false) is_so) ∙ sym (one_part (omega (arith, fits))) ∙ closes_of
    | inl lt ↦ sym (ap (λ b. b || has_close (drop (suc (length part)) rest)) is_so) ∙ sym (more_parts lt) ∙ closes_of
  ]

  pub not_found : is_close part ≡ false → at + length part ≡ length value → false ≡ has_close value
  not_found nay end = sym (ap (λ b. b || false) nay) ∙ sym (one_part (omega (arith, size_of_rest))) ∙ closes_of

  pub go_on : is_close part ≡ false → at + length part ≢ length value → (at + length part + 1 ≤ length value) × (has_close (drop (at + length part + 1) value) ≡ has_close value)
  go_on nay on =
      let lt : length part < length rest = omega (arith, size_of_rest, fits, on) in
      let k : at + length part + 1 ≤ length value = omega (arith, size_of_rest, lt, within) in
      let e : at + suc (length part) ≡ at + length part + 1 = omega arith in
      (k, ap has_close (sym (ap (drop (suc (length part))) rest_is ∙ drop-drop (suc (length part)) at value ∙ ap (λ m. drop m value) e)) ∙ sym (ap (λ b. b || has_close (drop (suc (length part)) rest)) nay) ∙ sym (more_parts lt) ∙ closes_of)

-- ---- numbers

pub number_grows : (n : ℕ) (z : List ℕ) → n ≤ number_from n z
number_grows n [] = omega arith
number_grows n (b ∷ z) = let more = number_grows (n * 10 + (b - 48)) z in omega (arith, more)

pub too_large : (n m : ℕ) → 1048576 < n → n ≤ m → within_limit m ≡ Err BodyTooLarge
too_large n m lt le = let more : 1048576 < m = omega arith in grind (arith, nat_tests)

pub not_too_large : (m : ℕ) → m ≤ 1048576 → within_limit m ≡ Ok m
not_too_large m le = grind (arith, nat_tests)

pub at_digit : (z : List ℕ) (i n d total : ℕ) → i < length z → d ≡ get_or z i 0 - 48 → number_from n (drop i z) ≡ total → n * 10 + d ≤ total
at_digit z i n d total lt is same =
    let e : number_from n (drop i z) ≡ number_from (n * 10 + (get_or z i 0 - 48)) (drop (i + 1) z) = at_drop_more (number_from n) z i 0 lt in
    let more = number_grows (n * 10 + (get_or z i 0 - 48)) (drop (i + 1) z) in
    omega (arith, more, e, is, same)
