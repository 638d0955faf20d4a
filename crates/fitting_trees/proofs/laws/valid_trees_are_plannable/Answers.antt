use Rattle.fitting_trees.proofs.Plannable.{plannable}
use Rattle.fitting_trees.proofs.laws.valid_trees_are_plannable.Goals as goal

pub returns : goal.returns
returns c base document place o given vars served =
    plannable base document place o given vars served (c.collected_trees_are_well_formed.ensures base.schema document place vars o served.stands served.few)
