-- Totals of totals.
use Rattle.std.proofs.Common.{◌≡◌, ℕ, zero, suc, ◌+◌, ◌≤◌, List, [], ◌∷◌, map, sum, Option, Some, None, Bool, true, false, cond, refl, sym, ap, ◌∙◌, arith}
use Rattle.std.specs.Prelude.{slice_get}
use Rattle.rel_model.specs.declared.tables.Row.{Row}
use Rattle.stmt_tree.proofs.Batched.{sum_cons}
use Rattle.plan_steps.specs.declared.plan.FetchStep.{FetchStep}
use Rattle.plan_steps.specs.declared.plan.Step.{Step}
use Rattle.plan_steps.specs.declared.plan.Step.TheVariants as step
use Rattle.plan_steps.specs.Denoted.{onto}
use Rattle.plan_steps.specs.Named.{fetch_in}
use Rattle.plan_steps.specs.Sent.{extended, total, places_from}
use Rattle.plan_steps.specs.Values.{Path}
use Rattle.plan_steps.proofs.Totals.{total_both, total_sum}
use Rattle.inline_select.specs.Inlined.{joined, moves_to, moved_to}

pub total_map : {A B : Type 0} (f : B → ℕ) (g : A → B) (xs : List A) → total f (map g xs) ≡ total (λ x. f (g x)) xs
total_map f g [] = refl
total_map f g (x ∷ xs) = ap (λ n. f (g x) + n) (total_map f g xs)

pub total_none : {A : Type 0} (xs : List A) → total (λ x. 0) xs ≡ 0
total_none [] = refl
total_none (x ∷ xs) = let z = total_none xs in omega (arith, z)

-- a sum over images is a total
pub sum_total : {A : Type 0} (f : A → ℕ) (xs : List A) → sum (map f xs) ≡ total f xs
sum_total f [] = refl
sum_total f (x ∷ xs) = sum_cons (f x) (map f xs) ∙ ap (λ n. f x + n) (sum_total f xs)

pub total_le : {A : Type 0} (f g : A → ℕ) → ((x : A) → f x ≤ g x) → (xs : List A) → total f xs ≤ total g xs
total_le f g h [] = omega arith
total_le f g h (x ∷ xs) = let a = h x in let b = total_le f g h xs in omega (arith, a, b)

-- the order of two totals doesn't matter
pub total_swap : {A B : Type 0} (f : A → B → ℕ) (xs : List A) (ys : List B) → total (λ x. total (f x) ys) xs ≡ total (λ y. total (λ x. f x y) xs) ys
total_swap f [] ys = sym (total_none ys)
total_swap f (x ∷ xs) ys = ap (λ n. total (f x) ys + n) (total_swap f xs ys) ∙ sym (total_sum (f x) (λ y. total (λ x. f x y) xs) ys)

-- a choice that is the same for all
pub total_if : {A : Type 0} (b : Bool) (f : A → ℕ) (xs : List A) → total (λ x. cond b (f x) 0) xs ≡ cond b (total f xs) 0
total_if true f xs = refl
total_if false f xs = total_none xs

-- a total over the paths one step further
pub extended_total : (c : Path → ℕ) (rows : Path → List Row) (s : ℕ) (paths : List Path) → total c (extended rows s paths) ≡ total (λ p. total (λ row. c (onto s p row)) (rows p)) paths
extended_total c rows s [] = refl
extended_total c rows s (p ∷ paths) =
    total_both c (map (onto s p) (rows p)) (extended rows s paths)
    ∙ ap (λ n. n + total c (extended rows s paths)) (total_map c (onto s p) (rows p))
    ∙ ap (λ n. total (λ row. c (onto s p row)) (rows p) + n) (extended_total c rows s paths)

-- a total over the fetches that move to one, by the places of all steps
pub moved_total : (steps : List Step) (g : ℕ) (F : FetchStep → ℕ) (M : ℕ → Bool) (G : ℕ → ℕ) (n : ℕ) (xs : List Step) →
    ((j : ℕ) (s : Step) → slice_get xs j ≡ Some s → moves_to steps g (fetch_in (Some s)) ≡ M (n + j)) →
    ((j : ℕ) (f : FetchStep) → slice_get xs j ≡ Some (step.Fetch f) → M (n + j) ≡ true → F f ≡ G (n + j)) →
    ((j : ℕ) (s : Step) → slice_get xs j ≡ Some s → fetch_in (Some s) ≡ None → M (n + j) ≡ false) →
    total F (moved_to steps g xs) ≡ total (λ j. cond (M j) (G j) 0) (places_from n xs)
moved_total steps g F M G n [] test same other = refl
moved_total steps g F M G n (x ∷ xs) test same other =
    let e : n + 0 ≡ n = omega arith in
    let next : (j : ℕ) → n + suc j ≡ n + 1 + j = λ j. omega arith in
    let rest = moved_total steps g F M G (n + 1) xs
    (λ j s at. test (suc j) s at ∙ ap M (next j))
    (λ j f at on. same (suc j) f at (ap M (next j) ∙ on) ∙ ap G (next j))
    (λ j s at none. ap M (sym (next j)) ∙ other (suc j) s at none) in
    ap (λ b. total F (joined b (fetch_in (Some x)) (moved_to steps g xs))) (test zero x refl ∙ ap M e)
    ∙ by_fetch (M n) refl (fetch_in (Some x)) refl
    ∙ ap (λ t. cond (M n) (G n) 0 + t) rest
  where
    fetch_is : (s : Step) (f : FetchStep) → fetch_in (Some s) ≡ Some f → s ≡ step.Fetch f
    fetch_is (step.Fetch h) f e = let z : h ≡ f = cc in ap step.Fetch z
    fetch_is _ f e = cc

    by_fetch : (b : Bool) → M n ≡ b → (o : Option FetchStep) → fetch_in (Some x) ≡ o → total F (joined b o (moved_to steps g xs)) ≡ cond b (G n) 0 + total F (moved_to steps g xs)
    by_fetch true m (Some f) is =
        let e : n + 0 ≡ n = omega arith in
        ap (λ v. v + total F (moved_to steps g xs)) (same zero f (ap (λ s. Some s) (fetch_is x f is)) (ap M e ∙ m) ∙ ap G e)
    by_fetch true m None is =
        let e : n + 0 ≡ n = omega arith in
        let off = other zero x refl is in let z = sym off ∙ ap M e ∙ m in cc
    by_fetch false m o is = omega arith
