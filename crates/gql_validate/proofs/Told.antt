-- Comparing each of xs with each of ys once tells whether each of either is among the other.
use Rattle.std.proofs.Common.{◌≡◌, ℕ, ◌+◌, Bool, true, false, ◌&&◌, ◌||◌, List, [], ◌∷◌, suc, length, replicate}
use Rattle.std.proofs.Common.{refl, sym, ap, ◌∙◌, arith}
use Rattle.std.specs.List.{list_all}
use Rattle.gql_validate.specs.SameLists.{is_among, has, all_are_among, all_have}
use Rattle.gql_validate.specs.Met.{put_met, with_met}

-- what is still to be told, where xs are left and it is known which of the ys are met
abbrev pub told : {A : Type 0} → (A → A → Bool) → List A → List A → List Bool → Bool
told same [] ys met = list_all (λ known. known) met
told same (x ∷ xs) ys met = is_among same x ys && told same xs ys (with_met same x met 0 ys)

-- each of the ys is met by now, or by one of xs
abbrev all_met : {A : Type 0} → (A → A → Bool) → List A → List A → List Bool → Bool
all_met same xs [] met = true
all_met same xs (y ∷ ys) [] = false
all_met same xs (y ∷ ys) (m ∷ met) = (m || has same xs y) && all_met same xs ys met

put_first : (m : Bool) (met : List Bool) (same : Bool) → put_met (m ∷ met) 0 same ≡ (m || same) ∷ met
put_first true met true = refl
put_first true met false = refl
put_first false met true = refl
put_first false met false = refl

put_later : (m : Bool) (met : List Bool) (place : ℕ) (same : Bool)
    → put_met (m ∷ met) (suc place) same ≡ m ∷ put_met met place same
put_later m met place true = refl
put_later m met place false = refl

or_turn : (a b c : Bool) → ((a || b) || c) ≡ (a || (b || c))
or_turn true b c = refl
or_turn false b c = refl

and_turn : (a b c : Bool) → (a && (b && c)) ≡ ((a && b) && c)
and_turn true b c = refl
and_turn false b c = refl

or_nothing : (a : Bool) → (a || false) ≡ a
or_nothing true = refl
or_nothing false = refl

module _ {A : Type 0} (same : A → A → Bool) where
  later : (x : A) (m : Bool) (met : List Bool) (place : ℕ) (ys : List A)
      → with_met same x (m ∷ met) (suc place) ys ≡ m ∷ with_met same x met place ys
  later x m met place [] = refl
  later x m met place (y ∷ ys) =
      let next : suc place + 1 ≡ suc (place + 1) = omega arith in
      ap (λ known. with_met same x known (suc place + 1) ys) (put_later m met place (same x y))
      ∙ ap (λ at. with_met same x (m ∷ put_met met place (same x y)) at ys) next
      ∙ later x m (put_met met place (same x y)) (place + 1) ys

  first : (x y : A) (m : Bool) (met : List Bool) (ys : List A)
      → with_met same x (m ∷ met) 0 (y ∷ ys) ≡ (m || same x y) ∷ with_met same x met 0 ys
  first x y m met ys =
      ap (λ known. with_met same x known 1 ys) (put_first m met (same x y)) ∙ later x (m || same x y) met 0 ys

  one_more : (x : A) (xs ys : List A) (met : List Bool) → length met ≡ length ys
      → all_met same xs ys (with_met same x met 0 ys) ≡ all_met same (x ∷ xs) ys met
  one_more x xs [] met e = refl
  one_more x xs (y ∷ ys) [] e = absurd (cc)
  one_more x xs (y ∷ ys) (m ∷ met) e =
      ap (all_met same xs (y ∷ ys)) (first x y m met ys)
      ∙ ap (λ b. b && all_met same xs ys (with_met same x met 0 ys)) (or_turn m (same x y) (has same xs y))
      ∙ ap (λ b. (m || (same x y || has same xs y)) && b) (one_more x xs ys met (cc))

  as_long : (x : A) (ys : List A) (met : List Bool) → length met ≡ length ys
      → length (with_met same x met 0 ys) ≡ length ys
  as_long x [] met e = e
  as_long x (y ∷ ys) [] e = absurd (cc)
  as_long x (y ∷ ys) (m ∷ met) e = ap length (first x y m met ys) ∙ ap suc (as_long x ys met (cc))

  at_end : (ys : List A) (met : List Bool) → length met ≡ length ys
      → list_all (λ known. known) met ≡ all_met same [] ys met
  at_end [] [] e = refl
  at_end [] (m ∷ met) e = absurd (cc)
  at_end (y ∷ ys) [] e = absurd (cc)
  at_end (y ∷ ys) (m ∷ met) e =
      ap (λ b. b && list_all (λ known. known) met) (sym (or_nothing m))
      ∙ ap (λ b. (m || false) && b) (at_end ys met (cc))

  told_is : (xs ys : List A) (met : List Bool) → length met ≡ length ys
      → told same xs ys met ≡ (all_are_among same xs ys && all_met same xs ys met)
  told_is [] ys met e = at_end ys met e
  told_is (x ∷ xs) ys met e =
      ap (λ b. is_among same x ys && b) (told_is xs ys (with_met same x met 0 ys) (as_long x ys met e))
      ∙ and_turn (is_among same x ys) (all_are_among same xs ys) (all_met same xs ys (with_met same x met 0 ys))
      ∙ ap (λ b. (is_among same x ys && all_are_among same xs ys) && b) (one_more x xs ys met e)

  none_yet : (xs ys : List A) → all_met same xs ys (replicate (length ys) false) ≡ all_have same xs ys
  none_yet xs [] = refl
  none_yet xs (y ∷ ys) = ap (λ b. has same xs y && b) (none_yet xs ys)

  unmet : (ys : List A) → length (replicate (length ys) false) ≡ length ys
  unmet [] = refl
  unmet (y ∷ ys) = ap suc (unmet ys)

  -- where nothing is known yet
  pub told_all : (xs ys : List A)
      → told same xs ys (replicate (length ys) false) ≡ (all_are_among same xs ys && all_have same xs ys)
  told_all xs ys =
      told_is xs ys (replicate (length ys) false) (unmet ys)
      ∙ ap (λ b. all_are_among same xs ys && b) (none_yet xs ys)
