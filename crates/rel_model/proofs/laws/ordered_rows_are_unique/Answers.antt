use Rattle.rel_model.proofs.OneOrder.{ordered_is_the_one}
use Rattle.rel_model.proofs.laws.ordered_rows_are_unique.Goals as goal

pub returns : goal.returns
returns c = ordered_is_the_one c.args.order.now c.args.rows.now c.args.sorted.now c.requires.numbers c.requires.rows c.requires.sorted
