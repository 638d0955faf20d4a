-- The readers of numbers are exact.
use Rattle.std.proofs.Common.{◌≡◌, ◌⊎◌, inl, inr, ℕ, zero, suc, ◌<◌, ◌^◌, ℤ, pos, negsuc, Bool, true, false, ◌&&◌, ◌==◌, nat_lt, if◌then◌else◌, List, [], ◌∷◌, ◌++◌, length, get_or, take_while, Option, Some, None, decimal, refl, sym, ap, ap₂, subst, ◌∙◌, arith, w64}
use Rattle.std.specs.Char.{is_ascii_digit}
use Rattle.std.specs.Int.RustNames.{FitsSigned}
use Rattle.std.specs.Str.Parse.{AllDigits, digits_value}
use Rattle.std.proofs.lemmas.Bool.Decides.{nat_tests}
use Rattle.std.proofs.lemmas.Int.{ints}
use Rattle.std.proofs.lemmas.Fmt.{decimal_is_IsNumeral, decimal_digit, first_decimal, decimal_nonempty, decimal-digits_value}
use Rattle.std.proofs.lemmas.Str.Parse.{IsNumeralModel, numerals_by_value, tells_digits}
use Rattle.json_out.specs.JsonText.{json_int}
use Rattle.cursor_text.specs.Reader.{given, byte, past}
use Rattle.cursor_text.specs.Reading.{is_spelled, natural_of, natural, negative_of, positive_of, negative, positive, integer}
use Rattle.cursor_text.proofs.Runs.{Pass, StopsAt, run-is, run-whole, past-is}
use Rattle.cursor_text.proofs.Digits.{digits_pass, run_of_digits}
use Rattle.cursor_text.proofs.Exact.{IsExact, Gave, then_of, given_of, if_of, and_of, after_of, if_true, after_it, after_not, then_gives, byte_not}

-- what may follow a number
abbrev pub NoDigit : List ℕ → Type 0
NoDigit = StopsAt is_ascii_digit

abbrev pub IsU64 : ℕ → Type 0
IsU64 n = n < 2 ^ 64

own : IsNumeralModel (AllDigits 10) (digits_value 10)
own = numerals_by_value (AllDigits 10) tells_digits

-- ---- digits

spelled_by : (ds : List ℕ) → 0 < length ds → (48 < get_or ds 0 0) → is_spelled ds ≡ true
spelled_by [] some first = absurd (omega arith)
spelled_by (b ∷ []) some first = refl
spelled_by (b ∷ c ∷ ds) some first = grind (arith, nat_tests)

decimal_spelled : (n : ℕ) → IsU64 n → is_spelled (decimal n) ≡ true
decimal_spelled zero lt = ap is_spelled (decimal_digit 0 (omega arith))
decimal_spelled (suc n) lt = spelled_by (decimal (suc n)) (decimal_nonempty (suc n) lt) (first_decimal (suc n) (omega arith) lt)

value_by : (v w : Bool) (n m : ℕ) → v ≡ true → w ≡ true → m ≡ n → (if v && w then Some m else None) ≡ Some n
value_by true true n m a b e = ap (λ (k : ℕ). Some k) e
value_by false w n m a b e = absurd cc
value_by true false n m a b e = absurd cc

natural_of_decimal : (n : ℕ) → IsU64 n → natural_of (decimal n) ≡ Some n
natural_of_decimal n lt =
    let same = (decimal_is_IsNumeral n lt).1 in
    let small : nat_lt (digits_value 10 (decimal n)) (2 ^ 64) ≡ true = grind (arith, nat_tests) in
    value_by (is_spelled (decimal n)) (nat_lt (digits_value 10 (decimal n)) (2 ^ 64)) n (digits_value 10 (decimal n)) (decimal_spelled n lt) small same

no_leading_zero : (ds : List ℕ) → is_spelled ds ≡ true → (0 < length ds) × (get_or ds 0 0 ≡ 48 → length ds ≡ 1)
no_leading_zero [] e = absurd cc
no_leading_zero (b ∷ []) e = (omega arith, λ z. refl)
no_leading_zero (b ∷ c ∷ ds) e = (omega arith, λ z. absurd (grind (arith, nat_tests, z)))

natural_of_spelled : (ds : List ℕ) (n : ℕ) → AllDigits 10 ds → natural_of ds ≡ Some n → IsU64 n × (ds ≡ decimal n)
natural_of_spelled ds n all e =
    let f = if_of (is_spelled ds && nat_lt (digits_value 10 ds) (2 ^ 64)) (digits_value 10 ds) n e in
    let t = and_of (is_spelled ds) (nat_lt (digits_value 10 ds) (2 ^ 64)) f.0 in
    let lt : digits_value 10 ds < 2 ^ 64 = grind (arith, nat_tests, t.1) in
    let first = no_leading_zero ds t.0 in
    (subst (λ (m : ℕ). m < 2 ^ 64) f.1 lt, sym (decimal-digits_value own ds all first.0 first.1 lt) ∙ ap decimal f.1)

-- ---- unsigned numbers

decimal_pass : (n : ℕ) → IsU64 n → Pass is_ascii_digit (decimal n)
decimal_pass n lt = digits_pass (decimal n) (decimal_is_IsNumeral n lt).0.1

pub natural_exact : IsExact IsU64 decimal NoDigit natural
unfolding natural
natural_exact = record {
  reads = λ n rest lt stops.
      let run = run-is is_ascii_digit (decimal n) rest (decimal_pass n lt) stops in
      let after = past-is is_ascii_digit (decimal n) rest (decimal_pass n lt) stops in
      ap₂ (λ (ds r : List ℕ). given (natural_of ds) r) run after
      ∙ ap (λ (o : Option ℕ). given o rest) (natural_of_decimal n lt);
  spelled = λ bytes rest n e.
      let g = given_of (natural_of (take_while is_ascii_digit bytes)) (past is_ascii_digit bytes) rest n e in
      let s = natural_of_spelled (take_while is_ascii_digit bytes) n (run_of_digits bytes) g.0 in
      (s.0, run-whole is_ascii_digit bytes ∙ ap₂ (λ (a b : List ℕ). a ++ b) s.1 g.1);
}

-- ---- signed numbers

-- a number's first byte, or a minus, isn't this byte
pub digits_not : (wanted : ℕ) → is_ascii_digit wanted ≡ false → (ds rest : List ℕ) → Pass is_ascii_digit ds → 0 < length ds → byte wanted (ds ++ rest) ≡ None
digits_not wanted other [] rest p some = absurd (omega arith)
digits_not wanted other (d ∷ ds) rest p some = byte_not wanted d (ds ++ rest) (grind (arith, nat_tests, p.0, other))

pub int_not : (wanted : ℕ) → is_ascii_digit wanted ≡ false → (45 == wanted) ≡ false → (z : ℤ) (rest : List ℕ) → FitsSigned w64 z → byte wanted (json_int z ++ rest) ≡ None
int_not wanted other minus (pos n) rest fits =
    let lt : IsU64 n = omega (arith, fits) in
    digits_not wanted other (decimal n) rest (decimal_pass n lt) (decimal_nonempty n lt)
int_not wanted other minus (negsuc n) rest fits = byte_not wanted 45 (decimal (suc n) ++ rest) minus

positive_reads : (n : ℕ) (rest : List ℕ) → n < 2 ^ 63 → NoDigit rest → positive (decimal n ++ rest) ≡ Some (pos n, rest)
unfolding positive
positive_reads n rest lt stops =
    let wide : IsU64 n = omega arith in
    then_gives (natural (decimal n ++ rest)) (λ m. given (positive_of m)) n rest (natural_exact.reads n rest wide stops)
    ∙ ap (λ (o : Option ℤ). given o rest) (if_true (nat_lt n (2 ^ 63)) (pos n) (grind (arith, nat_tests, lt)))

negative_reads : (n : ℕ) (rest : List ℕ) → n < 2 ^ 63 → NoDigit rest → negative (decimal (suc n) ++ rest) ≡ Some (negsuc n, rest)
unfolding negative
negative_reads n rest lt stops =
    let wide : IsU64 (suc n) = omega arith in
    then_gives (natural (decimal (suc n) ++ rest)) (λ m. given (negative_of m)) (suc n) rest (natural_exact.reads (suc n) rest wide stops)
    ∙ ap (λ (o : Option ℤ). given o rest) (if_true (nat_lt n (2 ^ 63)) (negsuc n) (grind (arith, nat_tests, lt)))

integer_reads : (z : ℤ) (rest : List ℕ) → FitsSigned w64 z → NoDigit rest → integer (json_int z ++ rest) ≡ Some (z, rest)
unfolding integer
integer_reads (pos n) rest fits stops =
    let lt : n < 2 ^ 63 = omega (arith, fits) in
    let wide : IsU64 n = omega (arith, fits) in
    after_not 45 negative positive (decimal n ++ rest) (digits_not 45 refl (decimal n) rest (decimal_pass n wide) (decimal_nonempty n wide)) ∙ positive_reads n rest lt stops
integer_reads (negsuc n) rest fits stops =
    let lt : n < 2 ^ 63 = omega (arith, fits) in
    after_it 45 negative positive (45 ∷ (decimal (suc n) ++ rest)) (decimal (suc n) ++ rest) refl ∙ negative_reads n rest lt stops

abbrev IsSpelled : List ℕ → ℤ → List ℕ → Type 0
IsSpelled bytes z rest = FitsSigned w64 z × (bytes ≡ json_int z ++ rest)

positive_is : (n : ℕ) (bytes rest : List ℕ) (z : ℤ) → bytes ≡ decimal n ++ rest → positive_of n ≡ Some z → IsSpelled bytes z rest
positive_is n bytes rest z is e =
    let f = if_of (nat_lt n (2 ^ 63)) (pos n) z e in
    let lt : n < 2 ^ 63 = grind (arith, nat_tests, f.0) in
    let fits : FitsSigned w64 (pos n) = omega (arith, ints, lt) in
    subst (λ (w : ℤ). IsSpelled bytes w rest) f.1 (fits, is)

negative_is : (n : ℕ) (bytes rest : List ℕ) (z : ℤ) → bytes ≡ decimal n ++ rest → negative_of n ≡ Some z → IsSpelled (45 ∷ bytes) z rest
negative_is zero bytes rest z is e = absurd cc
negative_is (suc n) bytes rest z is e =
    let f = if_of (nat_lt n (2 ^ 63)) (negsuc n) z e in
    let lt : n < 2 ^ 63 = grind (arith, nat_tests, f.0) in
    let fits : FitsSigned w64 (negsuc n) = omega (arith, ints, lt) in
    subst (λ (w : ℤ). IsSpelled (45 ∷ bytes) w rest) f.1 (fits, ap (λ (l : List ℕ). 45 ∷ l) is)

positive_spelled : (bytes rest : List ℕ) (z : ℤ) → positive bytes ≡ Some (z, rest) → IsSpelled bytes z rest
unfolding positive
positive_spelled bytes rest z e =
    let t = then_of (natural bytes) (λ m. given (positive_of m)) z rest e in
    let g = given_of (positive_of t.0) t.1 rest z t.3 in
    positive_is t.0 bytes rest z (subst (λ (l : List ℕ). bytes ≡ decimal t.0 ++ l) g.1 (natural_exact.spelled bytes t.1 t.0 t.2).1) g.0

negative_spelled : (bytes rest : List ℕ) (z : ℤ) → negative bytes ≡ Some (z, rest) → IsSpelled (45 ∷ bytes) z rest
unfolding negative
negative_spelled bytes rest z e =
    let t = then_of (natural bytes) (λ m. given (negative_of m)) z rest e in
    let g = given_of (negative_of t.0) t.1 rest z t.3 in
    negative_is t.0 bytes rest z (subst (λ (l : List ℕ). bytes ≡ decimal t.0 ++ l) g.1 (natural_exact.spelled bytes t.1 t.0 t.2).1) g.0

integer_spelled : (bytes rest : List ℕ) (z : ℤ) → integer bytes ≡ Some (z, rest) → IsSpelled bytes z rest
unfolding integer
integer_spelled bytes rest z e = by (after_of 45 negative positive bytes rest z e)
  where
    by : ((y : List ℕ) × (bytes ≡ 45 ∷ y) × Gave (negative y) z rest) ⊎ Gave (positive bytes) z rest → IsSpelled bytes z rest
    by (inl x) = subst (λ (l : List ℕ). IsSpelled l z rest) (sym x.1) (negative_spelled x.0 rest z x.2)
    by (inr h) = positive_spelled bytes rest z h

pub integer_exact : IsExact (FitsSigned w64) json_int NoDigit integer
integer_exact = record { reads = integer_reads; spelled = integer_spelled }
