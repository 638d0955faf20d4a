-- What holds of the plan that is drafted for a tree.
use Rattle.std.specs.Prelude.{IsTrue}
use Rattle.pg_base.specs.Base.{BaseParts, IsBase}
use Rattle.pg_base.specs.Catalog.{IsValidCatalog}
use Rattle.pg_base.specs.declared.vars.Vars.{Vars}
use Rattle.place_tree.specs.declared.place.Tree.{Tree}
use Rattle.plan_constraints.specs.Noted.{noted}
use Rattle.plan_steps.specs.Check.{is_checked}
use Rattle.plan_steps.specs.Fetches.{IsTreeOver, IsPlain}
use Rattle.plan_steps.specs.Serves.{ServesAll}
use Rattle.plan_steps.specs.Sound.{IsSound}
use Rattle.step_plan.specs.Drafted.{drafted}
use Rattle.step_plan.specs.Planned.{IsPlannable}

-- a base that is valid, and a tree of which a plan can be made
pub record MayPlan (base : BaseParts) (tree : Tree) (vars : Vars) : Type 0 where
  pub base_ : IsBase base
  pub catalog : IsValidCatalog base.catalog
  pub tree_ : IsPlannable base tree vars

-- such a tree is one over the base
abbrev pub PlannableTreesStandOverBases : Type 0
PlannableTreesStandOverBases = (base : BaseParts) (tree : Tree) (vars : Vars) → MayPlan base tree vars
    → IsTreeOver base tree

-- the plan is well formed
abbrev pub DraftedAreWellFormed : Type 0
DraftedAreWellFormed = (base : BaseParts) (tree : Tree) (vars : Vars) → MayPlan base tree vars
    → IsTrue (is_checked base tree (drafted base tree vars))

-- its steps serve each place, for all variables that meet what is noted
abbrev pub DraftedServe : Type 0
DraftedServe = (base : BaseParts) (tree : Tree) (vars : Vars) → MayPlan base tree vars
    → ServesAll base tree (noted base vars tree) (drafted base tree vars)

-- each row field has a fetch of its own, which tells of its window, its arguments and its errors; there are no others
abbrev pub DraftedArePlain : Type 0
DraftedArePlain = (base : BaseParts) (tree : Tree) (vars : Vars) → MayPlan base tree vars
    → IsPlain base tree (noted base vars tree) (drafted base tree vars)

-- and so the plan is sound: it shows what execution gives, and finds no more rows than that visits
abbrev pub DraftedAreSound : Type 0
DraftedAreSound = (base : BaseParts) (tree : Tree) (vars : Vars) → MayPlan base tree vars
    → IsSound base (drafted base tree vars) tree (noted base vars tree)
