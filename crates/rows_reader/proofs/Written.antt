-- Numbers as they are written, and as `parse` reads them.
use Rattle.std.proofs.Common.{◌≡◌, ℕ, ℤ, pos, neg_ℤ, ◌-◌, ◌^◌, ◌<◌, Bool, true, false, ◌&&◌, List, [], ◌∷◌, length, None, Some, refl, ap, arith}
use Rattle.std.specs.Prelude.{int_le, nat_lt, FitsSigned, if◌then◌else◌}
use Rattle.std.specs.Bool.{Decides}
use Rattle.std.specs.Char.{digit_value}
use Rattle.std.specs.Int.{w32, w64}
use Rattle.std.specs.List.{list_all}
use Rattle.std.specs.Str.Parse.{IsNumeral, AllDigits, signed_digits_value, without_leading_sign}
use Rattle.std.proofs.lemmas.Bool.Decides.{nat_tests, Decides-and}
use Rattle.std.proofs.lemmas.Int.{ints}
use Rattle.rows_reader.specs.Cells.{is_numeral, is_between, number_between, int_number, bigint_number}

pub both_true : (a b : Bool) → (a && b) ≡ true → (a ≡ true) × (b ≡ true)
both_true true b e = (refl, e)
both_true false b e = absurd (cc)

pub both_are : (a b : Bool) → a ≡ true → b ≡ true → (a && b) ≡ true
both_are true b e f = f
both_are false b e f = absurd (cc)

-- ---- bounds

pub between_32 : (n : ℤ) → is_between (neg_ℤ (pos (2 ^ 31))) (pos (2 ^ 31 - 1)) n ≡ true → FitsSigned w32 n
between_32 n e = let both = both_true (int_le (neg_ℤ (pos (2 ^ 31))) n) (int_le n (pos (2 ^ 31 - 1))) e in
    let low = both.0 in let high = both.1 in grind (arith, ints)

pub between_64 : (n : ℤ) → is_between (neg_ℤ (pos (2 ^ 63))) (pos (2 ^ 63 - 1)) n ≡ true → FitsSigned w64 n
between_64 n e = let both = both_true (int_le (neg_ℤ (pos (2 ^ 63))) n) (int_le n (pos (2 ^ 63 - 1))) e in
    let low = both.0 in let high = both.1 in grind (arith, ints)

pub fits_32 : (n : ℤ) → FitsSigned w32 n → is_between (neg_ℤ (pos (2 ^ 31))) (pos (2 ^ 31 - 1)) n ≡ true
fits_32 n f = both_are (int_le (neg_ℤ (pos (2 ^ 31))) n) (int_le n (pos (2 ^ 31 - 1))) (grind (arith, ints)) (grind (arith, ints))

pub fits_64 : (n : ℤ) → FitsSigned w64 n → is_between (neg_ℤ (pos (2 ^ 63))) (pos (2 ^ 63 - 1)) n ≡ true
fits_64 n f = both_are (int_le (neg_ℤ (pos (2 ^ 63))) n) (int_le n (pos (2 ^ 63 - 1))) (grind (arith, ints)) (grind (arith, ints))

-- ---- digits

digit_is : (c : ℕ) → Decides (nat_lt (digit_value c) 10) (digit_value c < 10)
digit_is c = (λ e. grind (arith, nat_tests), λ lt. grind (arith, nat_tests))

digits_are : (ds : List ℕ) → Decides (list_all (λ c. nat_lt (digit_value c) 10) ds) (AllDigits 10 ds)
digits_are [] = (λ e. tt, λ h. refl)
digits_are (c ∷ ds) = Decides-and (nat_lt (digit_value c) 10) (list_all (λ c. nat_lt (digit_value c) 10) ds) (digit_is c) (digits_are ds)

some_is : (n : ℕ) → Decides (nat_lt 0 n) (0 < n)
some_is n = (λ e. grind (arith, nat_tests), λ lt. grind (arith, nat_tests))

numeral_is : (ds : List ℕ) → Decides (is_numeral ds) (IsNumeral 10 ds)
numeral_is ds = Decides-and (nat_lt 0 (length ds)) (list_all (λ c. nat_lt (digit_value c) 10) ds) (some_is (length ds)) (digits_are ds)

-- ---- what is read

module _ (low high : ℤ) (Fit : ℤ → Type 0) (text : List ℕ) (into : (n : ℤ) → is_between low high n ≡ true → Fit n) (out : (n : ℤ) → Fit n → is_between low high n ≡ true) where
  abbrev value : ℤ
  value = signed_digits_value 10 text

  is_read : (b : Bool) → b ≡ true → (n : ℤ) → n ≡ value → Some n ≡ (if b then Some value else None)
  is_read true e n same = ap (λ m. Some m) same
  is_read false e n same = absurd (cc)

  is_none : (b : Bool) → (b ≡ true → ⊥) → None ≡ (if b then Some value else None)
  is_none true f = absurd (f refl)
  is_none false f = refl

  pub reads : (n : ℤ) → (IsNumeral 10 (without_leading_sign text) × Fit value) × (n ≡ value) → Some n ≡ number_between low high text
  reads n h = is_read (is_numeral (without_leading_sign text) && is_between low high value)
      (both_are (is_numeral (without_leading_sign text)) (is_between low high value) ((numeral_is (without_leading_sign text)).1 h.0.0) (out value h.0.1)) n h.1

  pub refuses : ¬ (IsNumeral 10 (without_leading_sign text) × Fit value) → None ≡ number_between low high text
  refuses n = is_none (is_numeral (without_leading_sign text) && is_between low high value)
      (λ e. n (let b = both_true (is_numeral (without_leading_sign text)) (is_between low high value) e in ((numeral_is (without_leading_sign text)).0 b.0, into value b.1)))

pub int_reads : (text : List ℕ) (n : ℤ) → (IsNumeral 10 (without_leading_sign text) × FitsSigned w32 (signed_digits_value 10 text)) × (n ≡ signed_digits_value 10 text) → Some n ≡ int_number text
int_reads text n h = reads (neg_ℤ (pos (2 ^ 31))) (pos (2 ^ 31 - 1)) (FitsSigned w32) text between_32 fits_32 n h

pub int_refuses : (text : List ℕ) → ¬ (IsNumeral 10 (without_leading_sign text) × FitsSigned w32 (signed_digits_value 10 text)) → None ≡ int_number text
int_refuses text n = refuses (neg_ℤ (pos (2 ^ 31))) (pos (2 ^ 31 - 1)) (FitsSigned w32) text between_32 fits_32 n

pub bigint_reads : (text : List ℕ) (n : ℤ) → (IsNumeral 10 (without_leading_sign text) × FitsSigned w64 (signed_digits_value 10 text)) × (n ≡ signed_digits_value 10 text) → Some n ≡ bigint_number text
bigint_reads text n h = reads (neg_ℤ (pos (2 ^ 63))) (pos (2 ^ 63 - 1)) (FitsSigned w64) text between_64 fits_64 n h

pub bigint_refuses : (text : List ℕ) → ¬ (IsNumeral 10 (without_leading_sign text) × FitsSigned w64 (signed_digits_value 10 text)) → None ≡ bigint_number text
bigint_refuses text n = refuses (neg_ℤ (pos (2 ^ 63))) (pos (2 ^ 63 - 1)) (FitsSigned w64) text between_64 fits_64 n
