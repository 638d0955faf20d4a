use Rattle.std.proofs.Common.{◌<◌, length, sym, ap, ◌∙◌, Bor, arith}
use Rattle.pg_base.specs.declared.table_def.ColumnDef.{ColumnDef}
use Rattle.place_tree.specs.Cursors as spec
use Rattle.list_execution.proofs.Found.{found_at}
use Rattle.list_execution.proofs.Marked.{by_at, none_unlike, stops_here, goes_on}
use Rattle.list_execution.proofs.marks.cursor_cells.Goals as goal

pub returns-then-values-order : goal.returns-then-values-order
returns-then-values-order c = sym (none_unlike c.args.catalog.now.enums c.args.columns.now c.args.order.now c.args.values.now c.if-values-order.true)

pub returns-in_default : goal.returns-in_default
returns-in_default c =
    let within : c.loop-i.i < length c.args.values.now = omega (arith, c.if-values-order.false) in
    let column = found_at (λ (x : Bor ColumnDef). x.now) c.args.columns.now (by_at c.args.order.now c.loop-i.i).column c.get-column.result c.get-column.ensures.lookup in
    stops_here c.args.catalog.now.enums c.args.columns.now c.args.order.now c.args.values.now c.loop-i.i c.loop-i.cells _ c.loop-i.invariant
    c.index-values-i.result c.loop-i-test.true within c.index-values-i.is c.in_ok-cell.field-0
    (c.in_ok-cell.ensures ∙ ap (λ o. spec.column_cell c.args.catalog.now.enums o c.index-values-i.result) column) c.in_default.is

pub loop-i-preserved : goal.loop-i-preserved
loop-i-preserved c =
    let within : c.loop-i.i < length c.args.values.now = omega (arith, c.if-values-order.false) in
    let column = found_at (λ (x : Bor ColumnDef). x.now) c.args.columns.now (by_at c.args.order.now c.loop-i.i).column c.get-column.result c.get-column.ensures.lookup in
    goes_on c.args.catalog.now.enums c.args.columns.now c.args.order.now c.args.values.now c.loop-i.i c.loop-i.cells _ c.loop-i.invariant
    c.index-values-i.result c.loop-i-test.true within c.index-values-i.is c.in_ok-cell.field-0
    (c.in_ok-cell.ensures ∙ ap (λ o. spec.column_cell c.args.catalog.now.enums o c.index-values-i.result) column)
    c.in-Some.cell c.push.new.self c.in-Some.is c.in_ok-push.ensures.ok
