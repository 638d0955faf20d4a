-- Items of mapped lists, and the first that passes a test.
use Rattle.std.proofs.Common.{◌≡◌, ℕ, zero, suc, ◌+◌, ◌<◌, List, [], ◌∷◌, map, length, Option, Some, Bool, true, false, cond, refl, ap, ◌∙◌, arith}
use Rattle.std.specs.Prelude.{slice_get, option_map, unwrap_or}
use Rattle.std.specs.List.{position_from}

pub some_one : {A : Type 0} (a b : A) → Some a ≡ Some b → a ≡ b
some_one a b e = ap (λ o. unwrap_or o a) e

pub get_map : {A B : Type 0} (f : A → B) (xs : List A) (k : ℕ) (x : A) → slice_get xs k ≡ Some x → slice_get (map f xs) k ≡ Some (f x)
get_map f [] k x h = cc
get_map f (y ∷ xs) zero x h = ap (λ o. option_map f o) h
get_map f (y ∷ xs) (suc k) x h = get_map f xs k x h

pub map_get : {A B : Type 0} (f : A → B) (xs : List A) (k : ℕ) (y : B) → slice_get (map f xs) k ≡ Some y → (x : A) × (slice_get xs k ≡ Some x) × (f x ≡ y)
map_get f [] k y h = cc
map_get f (x ∷ xs) zero y h = (x, refl, some_one (f x) y h)
map_get f (x ∷ xs) (suc k) y h = map_get f xs k y h

pub get_below : {A : Type 0} (xs : List A) (k : ℕ) (x : A) → slice_get xs k ≡ Some x → k < length xs
get_below [] k x h = cc
get_below (y ∷ xs) zero x h = omega arith
get_below (y ∷ xs) (suc k) x h = let lt = get_below xs k x h in omega (arith, lt)

first_found : {A : Type 0} (test : A → Bool) (b : Bool) (n m : ℕ) (rest : Option ℕ) → b ≡ true → cond b (Some n) rest ≡ Some n
first_found test true n m rest h = refl
first_found test false n m rest h = cc

-- the one item that passes a test is the first that does
pub position_one : {A : Type 0} (test : A → Bool) (n : ℕ) (xs : List A) (m : ℕ) (x : A) → slice_get xs m ≡ Some x → test x ≡ true
    → ((j : ℕ) (y : A) → slice_get xs j ≡ Some y → test y ≡ true → j ≡ m) → position_from test n xs ≡ Some (n + m)
position_one test n [] m x at h only = cc
position_one test n (y ∷ xs) zero x at h only =
    let same : y ≡ x = some_one y x at in
    let e : n ≡ n + 0 = omega arith in
    first_found test (test y) n n (position_from test (n + 1) xs) (ap test same ∙ h) ∙ ap Some e
position_one {A = A} test n (y ∷ xs) (suc m) x at h only =
    let rest = position_one test (n + 1) xs m x at h (λ j z there pass. let s = only (suc j) z there pass in omega (arith, s)) in
    let e : n + 1 + m ≡ n + suc m = omega arith in
    by (test y) refl (rest ∙ ap Some e) where
      by : (b : Bool) → test y ≡ b → position_from test (n + 1) xs ≡ Some (n + suc m) → cond b (Some n) (position_from test (n + 1) xs) ≡ Some (n + suc m)
      by true pass rest = let z = only zero y refl pass in absurd (omega (arith, z))
      by false pass rest = rest

pub found_at : {A : Type 0} (test : A → Bool) (n : ℕ) (xs : List A) (p : ℕ) → position_from test n xs ≡ Some p → (m : ℕ) × (x : A) × (p ≡ n + m) × (slice_get xs m ≡ Some x) × (test x ≡ true)
found_at test n [] p h = cc
found_at {A = A} test n (y ∷ xs) p h = by (test y) refl (found_at test (n + 1) xs p) h where
  by : (b : Bool) → test y ≡ b → (position_from test (n + 1) xs ≡ Some p → (m : ℕ) × (x : A) × (p ≡ (n + 1) + m) × (slice_get xs m ≡ Some x) × (test x ≡ true)) → cond b (Some n) (position_from test (n + 1) xs) ≡ Some p → (m : ℕ) × (x : A) × (p ≡ n + m) × (slice_get (y ∷ xs) m ≡ Some x) × (test x ≡ true)
  by true pass again h = let s : n ≡ p = some_one n p h in (0, y, omega (arith, s), refl, pass)
  by false pass again h = let z = again h in (suc z.0, z.1, let e = z.2 in omega (arith, e), z.3, z.4)
