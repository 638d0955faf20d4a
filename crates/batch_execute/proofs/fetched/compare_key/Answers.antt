use Rattle.std.proofs.Common.{ap, sym, ◌∙◌}
use Rattle.std.specs.Ordering.{ordering_reverse}
use Rattle.rel_model.specs.Ordered.{cells_by, cells_order}
use Rattle.rel_model.proofs.Orders.{cells_order_total}
use Rattle.batch_execute.proofs.fetched.compare_key.Goals as goal

pub returns : goal.returns
returns c =
    let own = cells_by c.args.order.now c.args.cells.now in
    c.reverse.ensures
    ∙ ap ordering_reverse (c.compare_row_values.ensures ∙ ap (cells_order c.args.order.now own) c.as_slice.ensures)
    ∙ sym ((cells_order_total c.args.order.now).antisymm c.args.key.now.cells own)
