-- What contracts see of a draft or an entry.
use Rattle.std.specs.Prelude.{List}
use Rattle.pg_base.specs.Base.{BaseParts}
use Rattle.place_tree.specs.declared.place.Tree.{Tree}
use Rattle.plan_constraints.specs.declared.constraint.Constraint.{Constraint}
use Rattle.plan_steps.specs.declared.plan.Plan.{Plan}
use Rattle.plan_steps.specs.Sound.{IsSound}

-- a plan of a tree over a base, for the variables that meet the constraints
pub record Planned : Type 0 where
  pub base : BaseParts
  pub plan : Plan
  pub tree : Tree
  pub constraints : List Constraint

abbrev pub planned : BaseParts → Plan → Tree → List Constraint → Planned
planned base plan tree constraints =
    record { base = base; plan = plan; tree = tree; constraints = constraints }

abbrev pub IsSoundFor : Planned → Type 0
IsSoundFor p = IsSound p.base p.plan p.tree p.constraints
