use Rattle.rel_model.proofs.Listed.{ordered_permutes}
use Rattle.rel_model.proofs.OneOrder.{ordered_sorted}
use Rattle.rel_model.proofs.laws.ordered_rows_are_sorted.Goals as goal

pub returns-clause-rows : goal.returns-clause-rows
returns-clause-rows c = ordered_permutes c.args.order.now c.args.rows.now

pub returns-clause-sorted : goal.returns-clause-sorted
returns-clause-sorted c = ordered_sorted c.args.order.now c.args.rows.now
