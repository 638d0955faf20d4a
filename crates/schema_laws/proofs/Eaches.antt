-- Facts of the items of lists that are made from others.
use Rattle.std.proofs.Common.{◌≡◌, ℕ, zero, suc, ◌+◌, Bool, true, false, List, [], ◌∷◌, ◌++◌, map, filter, Some, refl, sym, subst, arith}
use Rattle.std.specs.Prelude.{slice_get, if◌then◌else◌}
use Rattle.pg_base.specs.Lists.{Each}
use Rattle.pg_base.specs.Listing.{when, all_when, each_at}

pub same_some : {A : Type 0} (x y : A) → Some x ≡ Some y → x ≡ y
same_some x y e = cc

pub Each-append : {A : Type 0} (P : A → Type 0) (xs ys : List A) → Each P xs → Each P ys → Each P (xs ++ ys)
Each-append P [] ys h k = k
Each-append P (x ∷ xs) ys h k = (h.0, Each-append P xs ys h.1 k)

pub Each-when : {A : Type 0} (P : A → Type 0) (test : Bool) (x : A) → (test ≡ true → P x) → Each P (when test x)
Each-when P true x h = (h refl, tt)
Each-when P false x h = tt

pub Each-all_when : {A : Type 0} (P : A → Type 0) (test : Bool) (xs : List A) → (test ≡ true → Each P xs) → Each P (all_when test xs)
Each-all_when P true xs h = h refl
Each-all_when P false xs h = tt

pub Each-get : {A : Type 0} (P : A → Type 0) (xs : List A) (k : ℕ) (x : A) → Each P xs → slice_get xs k ≡ Some x → P x
Each-get P [] zero x h e = cc
Each-get P [] (suc k) x h e = cc
Each-get P (y ∷ xs) zero x h e = subst P (same_some y x e) h.0
Each-get P (y ∷ xs) (suc k) x h e = Each-get P xs k x h.1 e

-- what items give at their places, where the places count from a number on
EachFrom : {A B : Type 0} (P : B → Type 0) (f : ℕ → A → List B) (from : ℕ) (xs : List A)
    → ((k : ℕ) (x : A) → slice_get xs k ≡ Some x → Each P (f (from + k) x)) → Each P (each_at f from xs)
EachFrom P f from [] h = tt
EachFrom P f from (x ∷ xs) h =
    let e : from + 0 ≡ from = omega arith in
    Each-append P (f from x) (each_at f (suc from) xs)
    (subst (λ n. Each P (f n x)) e (h 0 x refl))
    (EachFrom P f (suc from) xs (λ k y g. let s : from + suc k ≡ suc from + k = omega arith in subst (λ n. Each P (f n y)) s (h (suc k) y g)))

pub Each-each_at : {A B : Type 0} (P : B → Type 0) (f : ℕ → A → List B) (xs : List A)
    → ((k : ℕ) (x : A) → slice_get xs k ≡ Some x → Each P (f k x)) → Each P (each_at f 0 xs)
Each-each_at P f xs h = EachFrom P f 0 xs (λ k x g. let s : k ≡ 0 + k = omega arith in subst (λ n. Each P (f n x)) s (h k x g))

-- ---- an item of a list

abbrev pub Has : {A : Type 0} → A → List A → Type 0
Has x xs = (k : ℕ) × (slice_get xs k ≡ Some x)

pub Has-here : {A : Type 0} (x : A) (xs : List A) → Has x (x ∷ xs)
Has-here x xs = (0, refl)

pub Has-there : {A : Type 0} (x y : A) (xs : List A) → Has x xs → Has x (y ∷ xs)
Has-there x y xs h = (suc h.0, h.1)

pub Has-right : {A : Type 0} (x : A) (xs ys : List A) → Has x ys → Has x (xs ++ ys)
Has-right x [] ys h = h
Has-right x (y ∷ xs) ys h = Has-there x y (xs ++ ys) (Has-right x xs ys h)

got_left : {A : Type 0} (x : A) (xs ys : List A) (k : ℕ) → slice_get xs k ≡ Some x → slice_get (xs ++ ys) k ≡ Some x
got_left x [] ys zero e = cc
got_left x [] ys (suc k) e = cc
got_left x (y ∷ xs) ys zero e = e
got_left x (y ∷ xs) ys (suc k) e = got_left x xs ys k e

pub Has-left : {A : Type 0} (x : A) (xs ys : List A) → Has x xs → Has x (xs ++ ys)
Has-left x xs ys h = (h.0, got_left x xs ys h.0 h.1)

pub Has-all_when : {A : Type 0} (x : A) (test : Bool) (xs : List A) → test ≡ true → Has x xs → Has x (all_when test xs)
Has-all_when x test xs e h = subst (λ b. Has x (all_when b xs)) (sym e) h

HasFrom : {A B : Type 0} (y : B) (f : ℕ → A → List B) (from : ℕ) (xs : List A) (k : ℕ) (x : A)
    → slice_get xs k ≡ Some x → Has y (f (from + k) x) → Has y (each_at f from xs)
HasFrom y f from [] zero x e h = cc
HasFrom y f from [] (suc k) x e h = cc
HasFrom y f from (z ∷ xs) zero x e h =
    let same : x ≡ z = sym (same_some z x e) in
    let n : from + 0 ≡ from = omega arith in
    Has-left y (f from z) (each_at f (suc from) xs) (subst (λ m. Has y (f m z)) n (subst (λ w. Has y (f (from + 0) w)) same h))
HasFrom y f from (z ∷ xs) (suc k) x e h =
    let s : from + suc k ≡ suc from + k = omega arith in
    Has-right y (f from z) (each_at f (suc from) xs) (HasFrom y f (suc from) xs k x e (subst (λ m. Has y (f m x)) s h))

pub Has-each_at : {A B : Type 0} (y : B) (f : ℕ → A → List B) (xs : List A) (k : ℕ) (x : A)
    → slice_get xs k ≡ Some x → Has y (f k x) → Has y (each_at f 0 xs)
Has-each_at y f xs k x e h = let s : k ≡ 0 + k = omega arith in HasFrom y f 0 xs k x e (subst (λ m. Has y (f m x)) s h)

pub Each-map : {A B : Type 0} (P : B → Type 0) (f : A → B) (xs : List A) → Each (λ x. P (f x)) xs → Each P (map f xs)
Each-map P f [] h = tt
Each-map P f (x ∷ xs) h = (h.0, Each-map P f xs h.1)

pub Each-weaker : {A : Type 0} (P Q : A → Type 0) (xs : List A) → ((x : A) → P x → Q x) → Each P xs → Each Q xs
Each-weaker P Q [] f h = tt
Each-weaker P Q (x ∷ xs) f h = (f x h.0, Each-weaker P Q xs f h.1)

Each-kept : {A : Type 0} (P : A → Type 0) (x : A) (xs : List A) (test : Bool) → P x → Each P xs → Each P (if test then x ∷ xs else xs)
Each-kept P x xs true p h = (p, h)
Each-kept P x xs false p h = h

pub Each-filter : {A : Type 0} (P : A → Type 0) (test : A → Bool) (xs : List A) → Each P xs → Each P (filter test xs)
Each-filter P test [] h = tt
Each-filter P test (x ∷ xs) h = Each-kept P x (filter test xs) (test x) h.0 (Each-filter P test xs h.1)

pub Each-all : {A : Type 0} (P : A → Type 0) (xs : List A) → ((x : A) → P x) → Each P xs
Each-all P [] f = tt
Each-all P (x ∷ xs) f = (f x, Each-all P xs f)
