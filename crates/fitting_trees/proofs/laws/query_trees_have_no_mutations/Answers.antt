use Rattle.fitting_trees.proofs.Plannable.{without_mutations}
use Rattle.fitting_trees.proofs.laws.query_trees_have_no_mutations.Goals as goal

pub returns : goal.returns
returns c base document place o given vars served is =
    without_mutations base document place o given vars served (c.collected_trees_are_well_formed.ensures base.schema document place vars o served.stands served.few) is
