-- In a plan that is checked, what a step names is earlier.
use Rattle.std.proofs.Common.{◌≡◌, ℕ, zero, suc, ◌+◌, ◌<◌, List, [], ◌∷◌, Option, Some, None, true, ◌&&◌, subst, arith}
use Rattle.std.specs.Prelude.{slice_get, nat_lt, IfSome, IsTrue}
use Rattle.std.specs.Cmp.{first_so, second_so}
use Rattle.std.proofs.lemmas.Bool.Decides.{nat_tests}
use Rattle.pg_base.specs.Base.{BaseParts}
use Rattle.pg_base.specs.Catalog.{CatalogParts}
use Rattle.place_tree.specs.declared.place.Tree.{Tree}
use Rattle.plan_steps.specs.declared.plan.Plan.{Plan}
use Rattle.plan_steps.specs.declared.plan.Step.{Step}
use Rattle.plan_steps.specs.Check.{step_fits, name_fits, steps_fit, is_checked}
use Rattle.plan_steps.specs.Named.{named_by}

name_told : (plan : Plan) (k : ℕ) (o : Option ℕ) → name_fits plan k o ≡ true → IfSome o (λ j. j < k)
name_told plan k None h = tt
name_told plan k (Some j) h = let lt : nat_lt j k ≡ true = first_so _ _ h in grind (arith, nat_tests, lt)

steps_told : (catalog : CatalogParts) (plan : Plan) (from : ℕ) (steps : List Step) → steps_fit catalog plan from steps ≡ true → (i : ℕ) (s : Step) → slice_get steps i ≡ Some s → IfSome (named_by s) (λ j. j < from + i)
steps_told catalog plan from [] h i s at = cc
steps_told catalog plan from (t ∷ steps) h zero s at =
    let same : t ≡ s = cc in
    let fits = second_so (step_fits catalog plan from t) _ (first_so _ _ h) in
    let e : from ≡ from + 0 = omega arith in
    subst (λ n. IfSome (named_by s) (λ j. j < n)) e (subst (λ x. IfSome (named_by x) (λ j. j < from)) same (name_told plan from (named_by t) fits))
steps_told catalog plan from (t ∷ steps) h (suc i) s at =
    let e : from + 1 + i ≡ from + suc i = omega arith in
    subst (λ n. IfSome (named_by s) (λ j. j < n)) e (steps_told catalog plan (from + 1) steps (second_so (step_fits catalog plan from t && name_fits plan from (named_by t)) _ h) i s at)

pub names_earlier : (base : BaseParts) (tree : Tree) (plan : Plan) → IsTrue (is_checked base tree plan) → (k : ℕ) (s : Step) → slice_get plan.steps k ≡ Some s → IfSome (named_by s) (λ j. j < k)
names_earlier base tree plan ok k s at =
    let e : 0 + k ≡ k = omega arith in
    subst (λ n. IfSome (named_by s) (λ j. j < n)) e (steps_told base.catalog plan 0 plan.steps (first_so _ _ ok) k s at)
