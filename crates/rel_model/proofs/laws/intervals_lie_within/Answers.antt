use Rattle.rel_model.proofs.Listed.{interval_within}
use Rattle.rel_model.proofs.laws.intervals_lie_within.Goals as goal

pub returns-clause-order : goal.returns-clause-order
returns-clause-order c = (interval_within c.args.order.now c.args.window.now c.args.list.now).0

pub returns-clause-end : goal.returns-clause-end
returns-clause-end c = (interval_within c.args.order.now c.args.window.now c.args.list.now).1
