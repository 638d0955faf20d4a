use Rattle.rel_model.proofs.Orders.{mark_order_total}
use Rattle.rel_model.proofs.laws.marks_are_ordered.Goals as goal

pub returns : goal.returns
returns c = mark_order_total c.args.order.now
