-- Rows that are looked for by number, in lists in which the numbers rise.
use Rattle.std.proofs.Common.{◌≡◌, ℕ, zero, suc, ◌+◌, ◌/◌, ◌<◌, ◌≤◌, ◌==◌, List, [], ◌∷◌, length, get_or, take, drop, Some, None, Bool, true, false, refl, sym, ap, ◌∙◌, arith, add-one}
use Rattle.std.proofs.lemmas.Bool.Decides.{nat_tests}
use Rattle.std.specs.Prelude.{if◌then◌else◌}
use Rattle.pg_base.specs.Lists.{Each}
use Rattle.rel_model.specs.declared.tables.Row.{Row}
use Rattle.rel_model.specs.Tables.{AreNumbered}
use Rattle.rel_model.specs.Picked.{row_numbered, AreRising}

module _ {A : Type 0} (P : A → Type 0) where
  pub each_drop : (n : ℕ) (xs : List A) → Each P xs → Each P (drop n xs)
  each_drop zero [] h = tt
  each_drop zero (x ∷ xs) h = h
  each_drop (suc n) [] h = tt
  each_drop (suc n) (x ∷ xs) h = each_drop n xs h.1

  pub each_take : (n : ℕ) (xs : List A) → Each P xs → Each P (take n xs)
  each_take zero [] h = tt
  each_take zero (x ∷ xs) h = tt
  each_take (suc n) [] h = tt
  each_take (suc n) (x ∷ xs) h = (h.0, each_take n xs h.1)

  pub each_at : (xs : List A) (n : ℕ) (d : A) → n < length xs → Each P xs → P (get_or xs n d)
  each_at [] n d lt h = absurd (omega arith)
  each_at (x ∷ xs) zero d lt h = h.0
  each_at (x ∷ xs) (suc n) d lt h = each_at xs n d (omega arith) h.1

  pub each_map : {Q : A → Type 0} → ((x : A) → P x → Q x) → (xs : List A) → Each P xs → Each Q xs
  each_map f [] h = tt
  each_map f (x ∷ xs) h = (f x h.0, each_map f xs h.1)

pub choose : {B : Type 0} (t : Bool) (x y : B) (v : Bool) → t ≡ v → (if t then x else y) ≡ (if v then x else y)
choose t x y v e = ap (λ b. if b then x else y) e

pub rising_drop : (n : ℕ) (rows : List Row) → AreRising rows → AreRising (drop n rows)
rising_drop zero [] h = tt
rising_drop zero (r ∷ rows) h = h
rising_drop (suc n) [] h = tt
rising_drop (suc n) (r ∷ rows) h = rising_drop n rows h.1

pub rising_take : (n : ℕ) (rows : List Row) → AreRising rows → AreRising (take n rows)
rising_take zero [] h = tt
rising_take zero (r ∷ rows) h = tt
rising_take (suc n) [] h = tt
rising_take (suc n) (r ∷ rows) h = (each_take (λ s. r.number < s.number) n rows h.0, rising_take n rows h.1)

-- a number below all of them is of none
pub none_below : (n : ℕ) (rows : List Row) → Each (λ s. n < s.number) rows → row_numbered rows n ≡ None
none_below n [] h = refl
none_below n (r ∷ rows) h =
    let t : (r.number == n) ≡ false = (let lt = h.0 in grind (arith, nat_tests, lt)) in
    choose (r.number == n) (Some r) (row_numbered rows n) false t ∙ none_below n rows h.1

-- what stands after a row below the number
pub found_after : (rows : List Row) (m n : ℕ) (d : Row) → AreRising rows → m < length rows → (get_or rows m d).number < n → row_numbered (drop (suc m) rows) n ≡ row_numbered rows n
found_after [] m n d up lt low = absurd (omega arith)
found_after (r ∷ rows) zero n d up lt low =
    let t : (r.number == n) ≡ false = grind (arith, nat_tests, low) in
    sym (choose (r.number == n) (Some r) (row_numbered rows n) false t)
found_after (r ∷ rows) (suc m) n d up lt low =
    let below : r.number < (get_or rows m d).number = each_at (λ s. r.number < s.number) rows m d (omega arith) up.0 in
    let t : (r.number == n) ≡ false = grind (arith, nat_tests, low, below) in
    found_after rows m n d up.1 (omega arith) low ∙ sym (choose (r.number == n) (Some r) (row_numbered rows n) false t)

-- what stands before a row above the number
pub found_before : (rows : List Row) (m n : ℕ) (d : Row) → AreRising rows → m < length rows → n < (get_or rows m d).number → row_numbered (take m rows) n ≡ row_numbered rows n
found_before [] m n d up lt high = absurd (omega arith)
found_before (r ∷ rows) zero n d up lt high =
    sym (none_below n (r ∷ rows) (high, each_map (λ s. r.number < s.number) (λ s l. omega (arith, l, high)) rows up.0))
found_before (r ∷ rows) (suc m) n d up lt high = ap (λ o. if r.number == n then Some r else o) (found_before rows m n d up.1 (omega arith) high)

-- the row with the number
pub found_here : (rows : List Row) (m n : ℕ) (d : Row) → AreRising rows → m < length rows → (get_or rows m d).number ≡ n → row_numbered rows n ≡ Some (get_or rows m d)
found_here [] m n d up lt e = absurd (omega arith)
found_here (r ∷ rows) zero n d up lt e =
    let t : (r.number == n) ≡ true = grind (arith, nat_tests, e) in
    choose (r.number == n) (Some r) (row_numbered rows n) true t
found_here (r ∷ rows) (suc m) n d up lt e =
    let below : r.number < (get_or rows m d).number = each_at (λ s. r.number < s.number) rows m d (omega arith) up.0 in
    let t : (r.number == n) ≡ false = grind (arith, nat_tests, e, below) in
    choose (r.number == n) (Some r) (row_numbered rows n) false t ∙ found_here rows m n d up.1 (omega arith) e

-- ---- the same as a loop that halves the rows meets it

pub half_below : {A : Type 0} (xs : List A) → 0 < length xs → length xs / 2 < length xs
half_below xs some = omega arith

module _ (rows : List Row) (m n : ℕ) (r : Row) (up : AreRising rows) (lt : m < length rows) (is : r ≡ get_or rows m r) where
  numbered : r.number ≡ (get_or rows m r).number
  numbered = ap (λ s. s.number) is

  pub number_here : r.number ≡ n → row_numbered rows n ≡ Some r
  number_here t =
      let e : (get_or rows m r).number ≡ n = sym numbered ∙ t in
      found_here rows m n r up lt e ∙ ap Some (sym is)

  pub number_after : r.number < n → row_numbered (drop (m + 1) rows) n ≡ row_numbered rows n
  number_after t =
      let low : (get_or rows m r).number < n = (let k = numbered in omega (arith, k, t)) in
      rw add-one (found_after rows m n r up lt low)

  pub number_before : ¬ (r.number ≡ n) → n ≤ r.number → row_numbered (take m rows) n ≡ row_numbered rows n
  number_before t u =
      let above : n < r.number = omega (arith, t, u) in
      let high : n < (get_or rows m r).number = (let k = numbered in omega (arith, k, above)) in
      found_before rows m n r up lt high

-- the rows of a valid table rise
numbered_above : (from below n : ℕ) (rows : List Row) → n < from → AreNumbered from below rows → Each (λ s. n < s.number) rows
numbered_above from below n [] lt h = tt
numbered_above from below n (r ∷ rows) lt h =
    let a = h.0 in
    (omega (arith, lt, a), numbered_above (r.number + 1) below n rows (omega (arith, lt, a)) h.2)

pub numbered_rise : (from below : ℕ) (rows : List Row) → AreNumbered from below rows → AreRising rows
numbered_rise from below [] h = tt
numbered_rise from below (r ∷ rows) h = (numbered_above (r.number + 1) below r.number rows (omega arith) h.2, numbered_rise (r.number + 1) below rows h.2)
