-- What std's `parse` reads, as the definitions say it.
use Rattle.std.proofs.Common.{◌≡◌, ℕ, ◌<◌, ◌≤◌, ◌^◌, nat_lt, nat_le, ◌==◌, Bool, true, false, not, ◌&&◌, if◌then◌else◌, List, [], ◌∷◌, length, Result, Ok, Err, refl, sym, ap, subst, arith, rules, true≢false}
use Rattle.std.specs.Prelude.{ℤ, pos, neg_ℤ}
use Rattle.std.specs.Cmp.{second_so}
use Rattle.std.specs.List.{list_all}
use Rattle.std.specs.Result.{OkIff}
use Rattle.std.specs.Str.Parse.{ParsesSigned, digits_value}
use Rattle.std.proofs.lemmas.Bool.Decides.{nat_tests, Decides-eqb}
use Rattle.std.proofs.lemmas.Str.Parse.{IsNumeralModel, IsDigitsTest, numerals_by_value, parse_signed_minus, parse_signed_digits}
use Rattle.std.proofs.lemmas.Int.{to_z-of_z}
use mir.Syntax.{w64}
use mir.Val.{SFits, to_z, of_z}
use Rattle.gql_input.specs.Coercions.{Coercion, out_of_range, wrong_kind}
use Rattle.gql_input.specs.Spelled.{is_digit, are_digits, is_int_value, of_digits, of_minus, signed_digits, integer_spelled}

AllDigits : List ℕ → Type 0
AllDigits ds = list_all is_digit ds ≡ true

tells : IsDigitsTest (λ ds. list_all is_digit ds ≡ true)
tells = search rules

own : IsNumeralModel (λ ds. list_all is_digit ds ≡ true) (digits_value 10)
own = numerals_by_value _ tells

all_digits : (ds : List ℕ) → are_digits ds ≡ true → list_all is_digit ds ≡ true
all_digits [] e = absurd (true≢false (sym e))
all_digits (c ∷ []) e = ap (λ b. b && true) e
all_digits (c ∷ d ∷ cs) e = second_so (not (c == 48)) _ e

some_digits : (ds : List ℕ) → are_digits ds ≡ true → 0 < length ds
some_digits [] e = absurd (true≢false (sym e))
some_digits (c ∷ cs) e = omega arith

-- what the code answers
abbrev pub read : {E : Type 0} → Result ℤ E → Coercion ℤ
read (Ok z) = Ok z
read (Err e) = Err out_of_range

by_digits : {E : Type 0} (ds : List ℕ) (r : Result ℤ E) → are_digits ds ≡ true
    → OkIff r ((0 < length ds) × (digits_value 10 ds < 2 ^ 63)) (pos (digits_value 10 ds)) → of_digits ds ≡ read r
by_digits ds (Ok z) e h =
    let t : nat_lt (digits_value 10 ds) (2 ^ 63) ≡ true = let lt = h.0.1 in grind (arith, nat_tests) in rw t (ap (λ x. Ok x) (sym h.1))
by_digits ds (Err x) e h =
    let some = some_digits ds e in
    let t : nat_lt (digits_value 10 ds) (2 ^ 63) ≡ false = by_test (nat_lt (digits_value 10 ds) (2 ^ 63)) refl in rw t refl
  where
    by_test : (b : Bool) → nat_lt (digits_value 10 ds) (2 ^ 63) ≡ b → nat_lt (digits_value 10 ds) (2 ^ 63) ≡ false
    by_test true k = absurd (h (some_digits ds e, grind (arith, nat_tests, k)))
    by_test false k = k

by_minus : {E : Type 0} (ds : List ℕ) (r : Result ℤ E) → are_digits ds ≡ true
    → OkIff r ((list_all is_digit ds ≡ true) × (0 < length ds) × (digits_value 10 ds ≤ 2 ^ 63)) (neg_ℤ (pos (digits_value 10 ds))) → of_minus ds ≡ read r
by_minus ds (Ok z) e h =
    let t : nat_le (digits_value 10 ds) (2 ^ 63) ≡ true = let le = h.0.2 in grind (arith, nat_tests) in rw t (ap (λ x. Ok x) (sym h.1))
by_minus ds (Err x) e h =
    let t : nat_le (digits_value 10 ds) (2 ^ 63) ≡ false = by_test (nat_le (digits_value 10 ds) (2 ^ 63)) refl in rw t refl
  where
    by_test : (b : Bool) → nat_le (digits_value 10 ds) (2 ^ 63) ≡ b → nat_le (digits_value 10 ds) (2 ^ 63) ≡ false
    by_test true k = absurd (h (all_digits ds e, some_digits ds e, grind (arith, nat_tests, k)))
    by_test false k = k

signed_by : {E : Type 0} (c : ℕ) (cs : List ℕ) (r : Result ℤ E) → ParsesSigned w64 10 (c ∷ cs) r → (b : Bool) → (c == 45) ≡ b
    → (if b then are_digits cs else are_digits (c ∷ cs)) ≡ true → (if b then of_minus cs else of_digits (c ∷ cs)) ≡ read r
signed_by c cs r h true e d = by_minus cs r d (parse_signed_minus own w64 (c ∷ cs) r h ((Decides-eqb c 45).0 e))
signed_by c cs r h false e d = by_digits (c ∷ cs) r d (parse_signed_digits own w64 (c ∷ cs) r h (all_digits (c ∷ cs) d))

pub spelled : {E : Type 0} (bs : List ℕ) (r : Result ℤ E) → ParsesSigned w64 10 bs r → is_int_value bs ≡ true → integer_spelled bs ≡ read r
spelled [] r h e = absurd (true≢false (sym e))
spelled (c ∷ cs) r h e = rw e (signed_by c cs r h (c == 45) refl e)

pub not_spelled : (bs : List ℕ) → is_int_value bs ≡ false → integer_spelled bs ≡ Err wrong_kind
not_spelled bs e = ap (λ b. if b then signed_digits bs else Err wrong_kind) e

-- what was read is an integer of 64 bits
pub kept : {E : Type 0} (bs : List ℕ) (z : ℤ) (r : Result ℤ E) → r ≡ Ok z → ParsesSigned w64 10 bs r → to_z w64 (of_z w64 z) ≡ z
kept {E} bs z r is h =
    let p : ParsesSigned {E = E} w64 10 bs (Ok z) = subst (λ s. ParsesSigned w64 10 bs s) is h in
    to_z-of_z w64 z (subst (λ x. SFits w64 x) (sym p.1) p.0.1)
