use Rattle.cursor_text.specs.CursorText.{IsMarkValue, value_json}
use Rattle.cursor_text.proofs.Written.{start, turn, closed, all_valid, values_on, values_end}
use Rattle.cursor_text.proofs.write.put_later_cells.Goals as goal

pub loop-cell-init : goal.loop-cell-init
loop-cell-init c = start IsMarkValue value_json _ _

pub loop-cell-preserved : goal.loop-cell-preserved
loop-cell-preserved c =
    turn IsMarkValue value_json _ _ _ _ _ _ _ c.loop-cell.invariant
    (values_on c.args.cells.now c.loop-cell.left.now _ c.loop-cell.cell-index _ c.loop-cell-test.true c.cell-item.is c.in_ok-left.ensures.left)
    c.in_ok-left.ensures.ok c.in_ok-left.ensures.valid

pub returns-clause-ok : goal.returns-clause-ok
returns-clause-ok c =
    closed IsMarkValue value_json _ _ _ _ c.loop-cell.invariant (values_end _ _ _ c.loop-cell-test.false) _ c.in_ok-push.ensures.items

pub returns-clause-valid : goal.returns-clause-valid
returns-clause-valid c = all_valid IsMarkValue value_json _ _ _ _ c.loop-cell.invariant (values_end _ _ _ c.loop-cell-test.false)
