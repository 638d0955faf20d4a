-- Items that pass a test, one after the other.
use Rattle.std.proofs.Common.{◌≡◌, Bool, true, false, List, [], ◌∷◌, ◌++◌, map, filter, flat_map, refl, ap, ◌∙◌}
use Rattle.std.specs.Prelude.{if◌then◌else◌}
use Rattle.pg_base.specs.Listing.{when}

kept_test : {A B : Type 0} (f : A → B) (x : A) (xs : List A) (test : Bool)
    → when test (f x) ++ map f xs ≡ map f (if test then x ∷ xs else xs)
kept_test f x xs true = refl
kept_test f x xs false = refl

pub kept_by_when : {A B : Type 0} (f : A → B) (test : A → Bool) (xs : List A)
    → flat_map (λ x. when (test x) (f x)) xs ≡ map f (filter test xs)
kept_by_when f test [] = refl
kept_by_when f test (x ∷ xs) =
    ap (λ rest. when (test x) (f x) ++ rest) (kept_by_when f test xs) ∙ kept_test f x (filter test xs) (test x)
