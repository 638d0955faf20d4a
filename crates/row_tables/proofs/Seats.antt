-- A row's place in a list in which the numbers rise, and what is put there or left out.
use Rattle.std.proofs.Common.{◌≡◌, ℕ, zero, suc, ◌<◌, ◌≤◌, ◌==◌, nat_lt, List, [], ◌∷◌, ◌++◌, length, get_or, set, Some, None, Bool, true, false, refl, sym, ap, ◌∙◌, subst, arith, le_refl}
use Rattle.std.specs.List.{slice_get, remove, insert, prefix_len}
use Rattle.std.proofs.lemmas.List.Sums.{prefix_len_passes, prefix_len_stops}
use Rattle.std.proofs.lemmas.Bool.Decides.{nat_tests}
use Rattle.pg_base.specs.Lists.{Each}
use Rattle.shared_list.specs.Lists.{Splits}
use Rattle.rel_model.specs.declared.tables.Row.{Row}
use Rattle.rel_model.specs.Picked.{row_numbered, AreRising}
use Rattle.rel_model.proofs.Rising.{each_at, each_map, choose, none_below, found_here}
use Rattle.row_tables.specs.Rows.{put, left_out}
use Rattle.row_tables.specs.Seat.{IsSeat}

abbrev low : ℕ → Row → Bool
low n r = nat_lt r.number n

number_le : (rows : List Row) → AreRising rows → (i j : ℕ) (d : Row) → i ≤ j → j < length rows → (get_or rows i d).number ≤ (get_or rows j d).number
number_le [] up i j d le lt = absurd (omega arith)
number_le (r ∷ rows) up zero zero d le lt = le_refl r.number
number_le (r ∷ rows) up zero (suc j) d le lt =
    let b : r.number < (get_or rows j d).number = each_at (λ s. r.number < s.number) rows j d (omega arith) up.0 in omega (arith, b)
number_le (r ∷ rows) up (suc i) zero d le lt = absurd (omega arith)
number_le (r ∷ rows) up (suc i) (suc j) d le lt = number_le rows up.1 i j d (omega arith) (omega arith)

lower_passes : (a b n : ℕ) → a ≤ b → nat_lt b n ≡ true → nat_lt a n ≡ true
lower_passes a b n le t = grind (arith, nat_tests, le, t)

pub splits_numbers : (n : ℕ) (rows : List Row) → AreRising rows → Splits (λ r. nat_lt r.number n) rows
splits_numbers n rows up = record { lower = λ i j d le lt t. lower_passes (get_or rows i d).number (get_or rows j d).number n (number_le rows up i j d le lt) t }

got : {X : Type 0} (xs : List X) (m : ℕ) (x d : X) → slice_get xs m ≡ Some x → get_or xs m d ≡ x
got [] m x d e = cc
got (y ∷ xs) zero x d e = some_same y x e
  where
    some_same : {X : Type 0} (a b : X) → Some a ≡ Some b → a ≡ b
    some_same a b e = cc
got (y ∷ xs) (suc m) x d e = got xs m x d e

-- ---- no row has the number

none_at : (rows : List Row) (m n : ℕ) → AreRising rows → ((i : ℕ) (d : Row) → i < m → i < length rows → (get_or rows i d).number < n) → ((d : Row) → m < length rows → n < (get_or rows m d).number) → row_numbered rows n ≡ None
none_at [] m n up lo hi = refl
none_at (r ∷ rows) zero n up lo hi =
    let above : n < r.number = hi r (omega arith) in
    none_below n (r ∷ rows) (above, each_map (λ s. r.number < s.number) (λ s l. omega (arith, l, above)) rows up.0)
none_at (r ∷ rows) (suc m) n up lo hi =
    let below : r.number < n = lo zero r (omega arith) (omega arith) in
    let t : (r.number == n) ≡ false = grind (arith, nat_tests, below) in
    choose (r.number == n) (Some r) (row_numbered rows n) false t
    ∙ none_at rows m n up.1 (λ i d a b. lo (suc i) d (omega (arith, a)) (omega (arith, b))) (λ d a. hi d (omega (arith, a)))

is_low : (a n : ℕ) → nat_lt a n ≡ true → a < n
is_low a n t = grind (arith, nat_tests, t)

is_high : (a n : ℕ) → nat_lt a n ≡ false → ¬ (a ≡ n) → n < a
is_high a n t u = let le : n ≤ a = grind (arith, nat_tests, t) in omega (arith, le, u)

seat_none : (rows : List Row) (m n : ℕ) → AreRising rows → m ≡ prefix_len (λ r. nat_lt r.number n) rows → ((d : Row) → m < length rows → ¬ ((get_or rows m d).number ≡ n)) → row_numbered rows n ≡ None
seat_none rows m n up is other =
    none_at rows m n up
    (λ i d a b. is_low (get_or rows i d).number n (prefix_len_passes (λ r. nat_lt r.number n) rows i d (let k = is in omega (arith, k, a))))
    (λ d a. is_high (get_or rows m d).number n (subst (λ k. nat_lt (get_or rows k d).number n ≡ false) (sym is) (prefix_len_stops (λ r. nat_lt r.number n) rows d (let k = is in omega (arith, k, a)))) (other d a))

pub seat_past : (rows : List Row) (m n : ℕ) → AreRising rows → m ≡ prefix_len (λ r. nat_lt r.number n) rows → length rows ≤ m → IsSeat n rows None
seat_past rows m n up is le = seat_none rows m n up is (λ d a. absurd (omega (arith, le, a)))

pub seat_other : (rows : List Row) (m n : ℕ) (r : Row) → AreRising rows → m ≡ prefix_len (λ r. nat_lt r.number n) rows → slice_get rows m ≡ Some r → ¬ (r.number ≡ n) → IsSeat n rows None
seat_other rows m n r up is at other = seat_none rows m n up is (λ d a e. other (sym (ap (λ s. s.number) (got rows m r d at)) ∙ e))

pub seat_here : (rows : List Row) (m n : ℕ) (r : Row) → m < length rows → slice_get rows m ≡ Some r → r.number ≡ n → IsSeat n rows (Some m)
seat_here rows m n r lt at e = (lt, λ d. ap (λ s. s.number) (got rows m r d at) ∙ e)

-- ---- what stands at the place of a number

pub seated_row : (rows : List Row) (m n : ℕ) (r : Row) → AreRising rows → IsSeat n rows (Some m) → slice_get rows m ≡ Some r → row_numbered rows n ≡ Some r
seated_row rows m n r up seat at = found_here rows m n r up seat.0 (seat.1 r) ∙ ap Some (got rows m r r at)

other_number : (r s : Row) (rows : List Row) (m : ℕ) (d : Row) (n : ℕ) → Each (λ t. s.number < t.number) rows → m < length rows → (get_or rows m d).number ≡ n → (s.number == n) ≡ false
other_number r s rows m d n up lt e =
    let b : s.number < (get_or rows m d).number = each_at (λ t. s.number < t.number) rows m d lt up in
    grind (arith, nat_tests, b, e)

put_at : (r : Row) (rows : List Row) (m : ℕ) (d : Row) → AreRising rows → m < length rows → (get_or rows m d).number ≡ r.number → set rows m r ≡ put r rows
put_at r [] m d up lt e = absurd (omega arith)
put_at r (s ∷ rows) zero d up lt e =
    let t : (s.number == r.number) ≡ true = grind (arith, nat_tests, e) in
    sym (choose (s.number == r.number) (r ∷ rows) (s ∷ put r rows) true t)
put_at r (s ∷ rows) (suc m) d up lt e =
    ap (λ l. s ∷ l) (put_at r rows m d up.1 (omega arith) e)
    ∙ sym (choose (s.number == r.number) (r ∷ rows) (s ∷ put r rows) false (other_number r s rows m d r.number up.0 (omega arith) e))

left_at : (n : ℕ) (rows : List Row) (m : ℕ) (d : Row) → AreRising rows → m < length rows → (get_or rows m d).number ≡ n → remove rows m ≡ left_out n rows
left_at n [] m d up lt e = absurd (omega arith)
left_at n (s ∷ rows) zero d up lt e =
    let t : (s.number == n) ≡ true = grind (arith, nat_tests, e) in
    sym (choose (s.number == n) rows (s ∷ left_out n rows) true t)
left_at n (s ∷ rows) (suc m) d up lt e =
    ap (λ l. s ∷ l) (left_at n rows m d up.1 (omega arith) e)
    ∙ sym (choose (s.number == n) rows (s ∷ left_out n rows) false (other_number s s rows m d n up.0 (omega arith) e))

pub put_seated : (r : Row) (rows : List Row) (m : ℕ) → AreRising rows → IsSeat r.number rows (Some m) → set rows m r ≡ put r rows
put_seated r rows m up seat = put_at r rows m r up seat.0 (seat.1 r)

pub left_seated : (n : ℕ) (rows : List Row) (m : ℕ) (d : Row) → AreRising rows → IsSeat n rows (Some m) → remove rows m ≡ left_out n rows
left_seated n rows m d up seat = left_at n rows m d up seat.0 (seat.1 d)

-- ---- and where there is none

module _ (n : ℕ) (s : Row) (rows : List Row) where
  passed : row_numbered (s ∷ rows) n ≡ None → ((s.number == n) ≡ false) × (row_numbered rows n ≡ None)
  passed e = by (s.number == n) refl
    where
      by : (b : Bool) → (s.number == n) ≡ b → ((s.number == n) ≡ false) × (row_numbered rows n ≡ None)
      by true t = absurd (let k : Some s ≡ None = sym (choose (s.number == n) (Some s) (row_numbered rows n) true t) ∙ e in cc)
      by false t = (t, sym (choose (s.number == n) (Some s) (row_numbered rows n) false t) ∙ e)

pub put_last : (r : Row) (rows : List Row) → row_numbered rows r.number ≡ None → put r rows ≡ rows ++ r ∷ []
put_last r [] e = refl
put_last r (s ∷ rows) e =
    let p = passed r.number s rows e in
    choose (s.number == r.number) (r ∷ rows) (s ∷ put r rows) false p.0 ∙ ap (λ l. s ∷ l) (put_last r rows p.1)

pub left_same : (n : ℕ) (rows : List Row) → row_numbered rows n ≡ None → left_out n rows ≡ rows
left_same n [] e = refl
left_same n (s ∷ rows) e =
    let p = passed n s rows e in
    choose (s.number == n) rows (s ∷ left_out n rows) false p.0 ∙ ap (λ l. s ∷ l) (left_same n rows p.1)

pub inserted_last : {X : Type 0} (xs : List X) (x : X) (n : ℕ) → n ≡ length xs → insert xs n x ≡ xs ++ x ∷ []
inserted_last [] x n e = subst (λ m. insert [] m x ≡ x ∷ []) (sym e) refl
inserted_last (y ∷ xs) x n e = subst (λ m. insert (y ∷ xs) m x ≡ y ∷ (xs ++ x ∷ [])) (sym e) (ap (λ l. y ∷ l) (inserted_last xs x (length xs) refl))
