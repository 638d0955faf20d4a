use Rattle.rel_model.proofs.OneOrder.{alike_number}
use Rattle.rel_model.proofs.laws.rows_stand_apart.Goals as goal

pub returns : goal.returns
returns c = alike_number c.args.order.now c.args.r.now c.args.s.now
