-- What is the same is equal, part by part.
use Rattle.std.proofs.Common.{◌≡◌, List, [], ◌∷◌, Bool, true, false, refl, ap, ◌∙◌}
use Rattle.std.specs.Prelude.{◌&&◌}
use Rattle.std.specs.Cmp.{first_so, second_so, unsigned_Decides}
use Rattle.std.specs.Cmp.Lexicographic.{pointwise}
use Rattle.std.proofs.lemmas.Slice.Eq.{bytes_eq-Decides}
use Rattle.plan_constraints.specs.declared.part.Part.{Part}
use Rattle.plan_constraints.specs.declared.part.Part.TheVariants as part
use Rattle.plan_constraints.specs.Same.{same_part, same_path}

part_same : (a b : Part) → same_part a b ≡ true → a ≡ b
part_same (part.Name a) (part.Name b) h = ap part.Name ((bytes_eq-Decides a b).0 h)
part_same (part.Index i) (part.Index j) h = ap part.Index ((unsigned_Decides i j).0 h)
part_same (part.Name a) (part.Index j) h = cc
part_same (part.Index i) (part.Name b) h = cc

part_itself : (a : Part) → same_part a a ≡ true
part_itself (part.Name a) = (bytes_eq-Decides a a).1 refl
part_itself (part.Index i) = (unsigned_Decides i i).1 refl

pub both_so : (a b : Bool) → a ≡ true → b ≡ true → (a && b) ≡ true
both_so true b h k = k
both_so false b h k = cc

pub all_same : {A : Type 0} (same : A → A → Bool) → ((a b : A) → same a b ≡ true → a ≡ b) → (xs ys : List A) → pointwise same xs ys ≡ true → xs ≡ ys
all_same same f [] [] h = refl
all_same same f [] (y ∷ ys) h = cc
all_same same f (x ∷ xs) [] h = cc
all_same same f (x ∷ xs) (y ∷ ys) h = ap (λ z. z ∷ xs) (f x y (first_so _ _ h)) ∙ ap (λ l. y ∷ l) (all_same same f xs ys (second_so (same x y) _ h))

pub all_itself : {A : Type 0} (same : A → A → Bool) → ((a : A) → same a a ≡ true) → (xs : List A) → pointwise same xs xs ≡ true
all_itself same f [] = refl
all_itself same f (x ∷ xs) = both_so _ _ (f x) (all_itself same f xs)

pub path_same : (p q : List Part) → same_path p q ≡ true → p ≡ q
path_same p q h = all_same same_part part_same p q h

pub path_itself : (p : List Part) → same_path p p ≡ true
path_itself p = all_itself same_part part_itself p
