-- Inlined plans may be run.
use Rattle.std.specs.Prelude.{List}
use Rattle.pg_base.specs.Base.{BaseParts}
use Rattle.place_tree.specs.declared.place.Tree.{Tree}
use Rattle.plan_constraints.specs.declared.constraint.Constraint.{Constraint}
use Rattle.plan_steps.specs.declared.plan.Plan.{Plan}
use Rattle.batch_execute.specs.Ready.{IsReady}
use Rattle.inline_select.specs.Inlined.{inlined}
use Rattle.inline_select.specs.Laws.{CanBeInlined}

-- the inlined plan of a merged one is ready to be run
abbrev pub InlinedPlansAreReady : Type 0
InlinedPlansAreReady = (base : BaseParts) (plan : Plan) (tree : Tree) (constraints : List Constraint)
    → CanBeInlined base plan tree constraints → IsReady base (inlined plan) tree constraints
