-- What holds of inlined plans.
use Rattle.std.specs.Prelude.{◌≡◌, ℕ, List, Some, slice_get, is_some, IsTrue}
use Rattle.pg_base.specs.Base.{BaseParts}
use Rattle.place_tree.specs.declared.place.Tree.{Tree}
use Rattle.plan_constraints.specs.declared.constraint.Constraint.{Constraint}
use Rattle.plan_steps.specs.declared.plan.FetchStep.{FetchStep}
use Rattle.plan_steps.specs.declared.plan.Plan.{Plan}
use Rattle.plan_steps.specs.declared.plan.Step.{Step}
use Rattle.plan_steps.specs.declared.plan.Step.TheVariants as step
use Rattle.plan_steps.specs.Check.{is_checked}
use Rattle.plan_steps.specs.Fetches.{IsTreeOver, IsMerged}
use Rattle.plan_steps.specs.Sent.{is_read}
use Rattle.plan_steps.specs.Sound.{IsSound, IsLean}
use Rattle.inline_select.specs.Inlined.{target, step_with, moved_to, inlined}

-- a plan that is well formed and merged, of a tree over its base
pub record CanBeInlined (base : BaseParts) (plan : Plan) (tree : Tree) (constraints : List Constraint) : Type 0 where
  pub over_tree : IsTreeOver base tree
  pub checked : IsTrue (is_checked base tree plan)
  pub merged : IsMerged base tree constraints plan

-- each fetch has, of the inlined fetches, those that move to it
abbrev pub FetchesStandBelow : Type 0
FetchesStandBelow = (base : BaseParts) (plan : Plan) (tree : Tree) → IsTrue (is_checked base tree plan)
    → (k : ℕ) (s : Step) → slice_get plan.steps k ≡ Some s
    → slice_get (inlined plan).steps k ≡ Some (step_with (moved_to plan.steps k (inlined plan).steps) s)

-- a fetch that moves is read, and no other
abbrev pub MovedFetchesAreRead : Type 0
MovedFetchesAreRead = (base : BaseParts) (plan : Plan) (tree : Tree) (constraints : List Constraint)
    → CanBeInlined base plan tree constraints
    → (k : ℕ) (f : FetchStep) → slice_get plan.steps k ≡ Some (step.Fetch f)
    → is_read (inlined plan).steps k ≡ is_some (target plan.steps f)

-- the inlined plan shows what execution gives, and finds no more rows
abbrev pub InlinedPlansAreSound : Type 0
InlinedPlansAreSound = (base : BaseParts) (plan : Plan) (tree : Tree) (constraints : List Constraint)
    → CanBeInlined base plan tree constraints → IsSound base (inlined plan) tree constraints

-- and sends no more statements than are needed
abbrev pub InlinedPlansAreLean : Type 0
InlinedPlansAreLean = (base : BaseParts) (plan : Plan) (tree : Tree) (constraints : List Constraint)
    → CanBeInlined base plan tree constraints → IsLean base (inlined plan) tree constraints
