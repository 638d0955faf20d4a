-- The plan that is made for a tree.
use Rattle.std.specs.Prelude.{◌≡◌, ℕ, ◌+◌, Result, Ok, Err}
use Rattle.pg_base.specs.Base.{BaseParts}
use Rattle.pg_base.specs.declared.vars.Vars.{Vars}
use Rattle.place_tree.specs.declared.place.Tree.{Tree}
use Rattle.plan_constraints.specs.Noted.{noted}
use Rattle.plan_steps.specs.Sound.{IsLean}
use Rattle.plan_steps.specs.View.{Planned}
use Rattle.planned_response.specs.declared.fault.PlanFault.{PlanFault}
use Rattle.planned_response.specs.declared.fault.PlanFault.TheVariants as plan_fault

-- it sends no more statements than its tree needs, for all variables that meet its constraints
abbrev pub IsLeanFor : Planned → Type 0
IsLeanFor p = IsLean p.base p.plan p.tree p.constraints

-- a plan of the tree, for all variables that meet what is noted of these
pub record IsMadeFor (base : BaseParts) (tree : Tree) (vars : Vars) (made : Planned) : Type 0 where
  pub base_ : made.base ≡ base
  pub tree_ : made.tree ≡ tree
  pub constraints_ : made.constraints ≡ noted base vars tree
  pub lean : IsLeanFor made

-- where memory ran out, one plan was counted, or none
abbrev pub CountsFault : ℕ → ℕ → PlanFault → Type 0
CountsFault before now plan_fault.Uncounted = now ≡ before
CountsFault before now plan_fault.Counted = now ≡ before + 1

-- one plan is counted, unless memory ran out before
abbrev pub CountsMade : {A : Type 0} → ℕ → ℕ → Result A PlanFault → Type 0
CountsMade before now (Ok x) = now ≡ before + 1
CountsMade before now (Err fault) = CountsFault before now fault
