use Rattle.list_execution.proofs.RowCursors.{cursor_labels}
use Rattle.list_execution.proofs.marks.mark_text.Goals as goal

pub write_cursor-requires-clause-labels : goal.write_cursor-requires-clause-labels
write_cursor-requires-clause-labels c =
    cursor_labels c.args.catalog.now c.args.table c.args.order.now c.args.row.now c.in_ok-mark.mark c.columns_of-columns.result.now c.as_slice.result.now c.in_ok-labels.labels c.as_slice-2.result.now
    c.in_ok-mark.ensures c.columns_of-columns.ensures.value c.as_slice.ensures c.in_ok-labels.ensures c.as_slice-2.ensures
