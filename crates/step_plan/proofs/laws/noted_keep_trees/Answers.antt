use Rattle.gql_collect.specs.Trees.{tree_of}
use Rattle.plan_constraints.proofs.Asked.{asked_steady}
use Rattle.step_plan.proofs.laws.noted_keep_trees.Goals as goal

pub returns : goal.returns
returns c base document operation vars other held =
    c.agreeing_variables_collect_the_same.ensures base.schema document operation vars other (asked_steady base vars other (tree_of base.schema document operation vars) held)
