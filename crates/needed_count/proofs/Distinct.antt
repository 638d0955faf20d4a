-- How many items of a list differ, where they are kept once each.
use Rattle.std.proofs.Common.{◌≡◌, ℕ, ◌+◌, Bool, true, false, cond, ◌||◌, List, [], ◌∷◌, ◌++◌, length, length-append, refl, sym, ap, ◌∙◌, arith}
use Rattle.std.specs.Cmp.{IsEquivalence}
use Rattle.std.specs.List.{list_any}
use Rattle.std.proofs.lemmas.List.Folds.{list_any-append}
use Rattle.std.proofs.lemmas.Map.Steps.{list_any_congr}
use Rattle.place_tree.specs.Needs.{distinct}

or_none : (a : Bool) → (a || false) ≡ a
or_none true = refl
or_none false = refl

any_last : {A : Type 0} (test : A → Bool) (xs : List A) (y : A) → list_any test (xs ++ y ∷ []) ≡ (list_any test xs || test y)
any_last test xs y = list_any-append test xs (y ∷ []) ∙ ap (λ b. list_any test xs || b) (or_none (test y))

-- of an item x before xs, and one y after: whether xs has x, whether x is y, whether xs has y, how many in xs differ
one_more : (a b c : Bool) (n m : ℕ) → (b ≡ true → c ≡ a) → m ≡ n + cond c 0 1 → cond (a || b) m (m + 1) ≡ cond a n (n + 1) + cond (b || c) 0 1
one_more true true true n m f e = e
one_more true true false n m f e = let z : false ≡ true = f refl in cc
one_more true false true n m f e = e
one_more true false false n m f e = e
one_more false true true n m f e = let z : true ≡ false = f refl in cc
one_more false true false n m f e = omega (arith, e)
one_more false false true n m f e = omega (arith, e)
one_more false false false n m f e = omega (arith, e)

distinct_last : {A : Type 0} (same : A → A → Bool) → IsEquivalence same → (xs : List A) (y : A)
    → distinct same (xs ++ y ∷ []) ≡ distinct same xs + cond (list_any (same y) xs) 0 1
distinct_last same laws [] y = refl
distinct_last same laws (x ∷ xs) y =
    let n = distinct same xs in
    let m = distinct same (xs ++ y ∷ []) in
    let a = list_any (same x) xs in
    let c = list_any (same y) xs in
    ap (λ b. cond b m (m + 1)) (any_last (same x) xs y)
    ∙ one_more a (same x y) c n m (λ h. sym (list_any_congr laws x y xs h)) (distinct_last same laws xs y)
    ∙ ap (λ b. cond a n (n + 1) + cond (b || c) 0 1) (laws.symm x y)

-- those of a list, once each
pub record AreOnce {A : Type 0} (same : A → A → Bool) (once xs : List A) : Type 0 where
  pub count : length once ≡ distinct same xs
  pub among : (x : A) → list_any (same x) once ≡ list_any (same x) xs

pub none_once : {A : Type 0} (same : A → A → Bool) → AreOnce same [] []
none_once same = record { count = refl; among = λ x. refl }

settled : (a b : Bool) → (b ≡ true → a ≡ true) → a ≡ (a || b)
settled true b f = refl
settled false true f = f refl
settled false false f = refl

longer : {A : Type 0} (once : List A) (y : A) (n : ℕ) (b : Bool) → b ≡ false → length once ≡ n → length (once ++ y ∷ []) ≡ n + cond b 0 1
longer once y n b is e =
    let long = length-append once (y ∷ []) in
    let one : n + cond b 0 1 ≡ n + 1 = ap (λ c. n + cond c 0 1) is in
    omega (arith, long, e, one)

no_longer : {A : Type 0} (once : List A) (n : ℕ) (b : Bool) → b ≡ true → length once ≡ n → length once ≡ n + cond b 0 1
no_longer once n b is e =
    let same : n + cond b 0 1 ≡ n + 0 = ap (λ c. n + cond c 0 1) is in
    omega (arith, e, same)

-- one item more, which is kept where none is the same
pub once_more : {A : Type 0} (same : A → A → Bool) → IsEquivalence same → (once xs : List A) (y : A)
    → AreOnce same once xs → AreOnce same (cond (list_any (same y) once) once (once ++ y ∷ [])) (xs ++ y ∷ [])
once_more {A = A} same laws once xs y h = by (list_any (same y) once) refl where
  by : (b : Bool) → list_any (same y) once ≡ b → AreOnce same (cond b once (once ++ y ∷ [])) (xs ++ y ∷ [])
  by true is = record {
    count = no_longer once (distinct same xs) (list_any (same y) xs) (sym (h.among y) ∙ is) h.count ∙ sym (distinct_last same laws xs y);
    among = λ x. settled (list_any (same x) once) (same x y) (λ e. list_any_congr laws x y once e ∙ is)
        ∙ ap (λ b. b || same x y) (h.among x) ∙ sym (any_last (same x) xs y);
  }
  by false is = record {
    count = longer once y (distinct same xs) (list_any (same y) xs) (sym (h.among y) ∙ is) h.count ∙ sym (distinct_last same laws xs y);
    among = λ x. any_last (same x) once y ∙ ap (λ b. b || same x y) (h.among x) ∙ sym (any_last (same x) xs y);
  }
