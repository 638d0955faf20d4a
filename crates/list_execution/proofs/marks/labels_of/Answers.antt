use Rattle.std.proofs.Common.{◌<◌, ◌≤◌, min, length, ap, ◌∙◌, Bor, arith}
use Rattle.pg_base.specs.declared.table_def.ColumnDef.{ColumnDef}
use Rattle.place_tree.specs.Cursors as spec
use Rattle.list_execution.proofs.Found.{found_at}
use Rattle.list_execution.proofs.Marked.{by_at, labels_skip, labels_go, labels_end}
use Rattle.list_execution.proofs.marks.labels_of.Goals as goal

pub loop-i-preserved-in_default : goal.loop-i-preserved-in_default
loop-i-preserved-in_default c =
    let below : c.loop-i.i < length c.args.order.now = omega (arith, c.min-i-end.ensures) in
    let within : c.loop-i.i < length c.args.cells.now = omega (arith, c.min-i-end.ensures) in
    labels_skip c.args.catalog.now.enums c.args.columns.now c.args.order.now c.args.cells.now c.loop-i.i c.loop-i.labels _ c.loop-i.invariant
    c.index-cells-i.result below within c.index-cells-i.is c.case_in.result c.case_in.ensures c.in_default.is

pub loop-i-preserved : goal.loop-i-preserved
loop-i-preserved c =
    let below : c.loop-i.i < length c.args.order.now = omega (arith, c.min-i-end.ensures) in
    let within : c.loop-i.i < length c.args.cells.now = omega (arith, c.min-i-end.ensures) in
    let column = found_at (λ (x : Bor ColumnDef). x.now) c.args.columns.now (by_at c.args.order.now c.loop-i.i).column c.get-column.result c.get-column.ensures.lookup in
    labels_go c.args.catalog.now.enums c.args.columns.now c.args.order.now c.args.cells.now c.loop-i.i c.loop-i.labels _ c.loop-i.invariant
    c.index-cells-i.result below within c.index-cells-i.is c.case_in.result c.case_in.ensures
    c.in-Some.case c.in_ok-label_at.field-0 c.push.new.self c.in-Some.is
    (c.in_ok-label_at.ensures ∙ ap (λ o. spec.label_at c.args.catalog.now.enums o c.in-Some.case) column) c.in_ok-push.ensures.ok

pub returns : goal.returns
returns c =
    let past : min (length c.args.order.now) (length c.args.cells.now) ≤ c.loop-i.i = omega (arith, c.min-i-end.ensures) in
    labels_end c.args.catalog.now.enums c.args.columns.now c.args.order.now c.args.cells.now c.loop-i.i c.loop-i.labels _ c.loop-i.invariant past
