use Rattle.plan_steps.proofs.TypedTrees.{typed_trees}
use Rattle.plan_steps.proofs.laws.typed_trees_stand_over_bases.Goals as goal

pub returns : goal.returns
returns c = typed_trees
