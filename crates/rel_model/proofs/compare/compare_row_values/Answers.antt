use Rattle.std.proofs.Common.{sym, ◌∙◌, false}
use Rattle.rel_model.proofs.Comparing.{values_stop, values_go}
use Rattle.rel_model.proofs.compare.compare_row_values.Goals as goal

pub returns-then-is_ne : goal.returns-then-is_ne
returns-then-is_ne c =
    values_stop c.args.order.now c.loop-i.i (record { column = 0; descending = false }) c.loop-i-test.true _ c.args.cells.now c.args.values.now c.compare_at-found.ensures _ c.loop-i.invariant (sym c.is_ne.ensures ∙ c.if-is_ne.true)

pub loop-i-preserved : goal.loop-i-preserved
loop-i-preserved c =
    values_go c.args.order.now c.loop-i.i (record { column = 0; descending = false }) c.loop-i-test.true _ c.args.cells.now c.args.values.now c.compare_at-found.ensures _ c.loop-i.invariant (sym c.is_ne.ensures ∙ c.if-is_ne.false)
