-- A plain plan of a query, from what holds of each of its fetches.
use Rattle.std.proofs.Common.{◌≡◌, ℕ, List, [], Some, None, true, false, refl, sym, ap, ◌∙◌, subst}
use Rattle.std.specs.Prelude.{slice_get, is_some}
use Rattle.pg_base.specs.Base.{BaseParts}
use Rattle.place_tree.specs.declared.place.Place.{Place}
use Rattle.place_tree.specs.declared.place.Tree.{Tree}
use Rattle.pg_base.specs.declared.vars.Vars.{Vars}
use Rattle.place_tree.specs.Fetch.{argument_error}
use Rattle.place_tree.specs.Fields.{does_of}
use Rattle.place_tree.specs.Needs.{is_mutation}
use Rattle.plan_constraints.specs.Constraints.{Hold}
use Rattle.plan_constraints.specs.declared.constraint.Constraint.{Constraint}
use Rattle.plan_steps.specs.declared.plan.FetchStep.{FetchStep, out-FetchStep}
use Rattle.plan_steps.specs.declared.plan.Plan.{Plan}
use Rattle.plan_steps.specs.declared.plan.Root.{Root}
use Rattle.plan_steps.specs.declared.plan.Root.TheVariants as root
use Rattle.plan_steps.specs.declared.plan.Step.TheVariants as step
use Rattle.plan_steps.specs.Fetches.{IsStart, IsFieldOf, HangsOn, IsBelowFetch, StandsWith, ShowsRows, AreFetches, bare, AreAlike, has_null_order, TellsWindows, IsPlain}
use Rattle.plan_steps.specs.Fitting.{FitTree}
use Rattle.plan_steps.specs.Named.{over}
use Rattle.plan_steps.specs.Serves.{basis_above, ServesAll}
use Rattle.plan_steps.specs.Sound.{IsRootOf}
use Rattle.plan_steps.specs.Under.{is_under, is_used}
use Rattle.plan_steps.proofs.Served.{each_at}

-- each row field has a fetch of its own, which hangs and stands as it is to, and there are no others
pub record HasOwnFetches (base : BaseParts) (tree : Tree) (constraints : List Constraint) (plan : Plan) : Type 0 where
  pub serves : ServesAll base tree constraints plan
  pub own : (k i j : ℕ) → IsFieldOf base tree plan k i → IsFieldOf base tree plan k j → i ≡ j
  pub only : (k : ℕ) (f : FetchStep) → slice_get plan.steps k ≡ Some (step.Fetch f) → (i : ℕ) × (field : IsFieldOf base tree plan k i) × ((out-FetchStep f).rows ≡ true → ShowsRows base tree i field.place)
  pub flat : (k : ℕ) (f : FetchStep) → slice_get plan.steps k ≡ Some (step.Fetch f) → (out-FetchStep f).children ≡ []
  pub hangs : (k i : ℕ) (f : FetchStep) (field : IsFieldOf base tree plan k i) → slice_get plan.steps k ≡ Some (step.Fetch f)
      → HangsOn plan.steps (basis_above serves.bases field.place.parent) (out-FetchStep f).parent × IsBelowFetch k (serves.bases i)
  pub stands : (k : ℕ) (f : FetchStep) → slice_get plan.steps k ≡ Some (step.Fetch f) → StandsWith plan.layers k (out-FetchStep f).parent
  pub given : (k : ℕ) → slice_get plan.steps k ≡ Some step.Given → over plan.layers k ≡ None
  pub tells : TellsWindows base tree constraints plan
  pub alike : (k l i j : ℕ) (f g : FetchStep) → (field : IsFieldOf base tree plan k i) (other : IsFieldOf base tree plan l j) → slice_get plan.steps k ≡ Some (step.Fetch f) → slice_get plan.steps l ≡ Some (step.Fetch g)
      → AreAlike field.place other.place → bare f ≡ bare g
  pub same_error : (vars : Vars) → FitTree base vars tree → Hold constraints vars → (k l i j : ℕ) (f g : FetchStep) → (field : IsFieldOf base tree plan k i) (other : IsFieldOf base tree plan l j)
      → slice_get plan.steps k ≡ Some (step.Fetch f) → slice_get plan.steps l ≡ Some (step.Fetch g) → bare f ≡ bare g → has_null_order vars field.place ≡ has_null_order vars other.place
      → is_some (argument_error base vars field.place) ≡ is_some (argument_error base vars other.place)

module _ (base : BaseParts) (tree : Tree) (constraints : List Constraint) (plan : Plan) (query : IsRootOf base tree root.Query) (has : HasOwnFetches base tree constraints plan) where
  -- a query's tree has no mutation field
  no_start : (place : ℕ) (p : Place) → slice_get tree.places place ≡ Some p → is_mutation (does_of base.schema p) ≡ true → ⊥
  no_start place p at m = let z = sym m ∙ each_at (λ p. is_mutation (does_of base.schema p) ≡ false) tree.places place p query at in cc

  used : (r : Root) → IsStart base tree r → (k : ℕ) (f : FetchStep) → slice_get plan.steps k ≡ Some (step.Fetch f) → is_used tree plan r k ≡ true → (i : ℕ) × IsFieldOf base tree plan k i × (is_under tree r i ≡ true)
  used root.Query start k f at u = let z = has.only k f at in (z.0, z.1, refl)
  used (root.Field place row) start k f at u = absurd (no_start place start.0 start.1 start.2)

  one_root : (r : Root) → IsStart base tree r → (k i j : ℕ) → IsFieldOf base tree plan k i → IsFieldOf base tree plan k j → is_under tree r i ≡ true → is_under tree r j ≡ true
  one_root r start k i j field other u = subst (λ n. is_under tree r n ≡ true) (has.own k i j field other) u

  one_place : (i j : ℕ) (p q : Place) → i ≡ j → slice_get tree.places i ≡ Some p → slice_get tree.places j ≡ Some q → p ≡ q
  one_place i j p q e at there = let same = subst (λ n. slice_get tree.places n ≡ Some p) e at in cc

  are_fetches : AreFetches base tree constraints plan
  are_fetches = record {
    serves = has.serves;
    only = λ k f at. let z = has.only k f at in (z.0, z.1);
    flat = has.flat;
    rows = λ k f at rows. let z = has.only k f at in (z.0, z.1, z.2 rows);
    hangs = has.hangs;
    stands = has.stands;
    given = has.given;
    used = used;
    one_root = one_root;
    one_error = λ vars fit hold k i j field other. ap (λ p. is_some (argument_error base vars p)) (one_place i j field.place other.place (has.own k i j field other) field.is_place other.is_place);
  }

  pub plain_query : IsPlain base tree constraints plan
  plain_query = record { fetches = are_fetches; own = has.own; tells = has.tells; alike = has.alike; same_error = has.same_error }
