use Rattle.std.proofs.Common.{◌≡◌, map, ap, sym, ◌∙◌, rules}
use Rattle.pg_base.specs.Lists.{Each}
use Rattle.rel_model.specs.Ordered.{sorted_by, ascending}
use Rattle.stmt_run.specs.declared.placing.Placed.{Placed}
use Rattle.stmt_run.specs.Grouped.{grouped}
use Rattle.stmt_run.specs.Marks.{IsMarked, placed_before, row_mark}
use Rattle.stmt_run.proofs.Layers.{now_all}
use Rattle.stmt_run.proofs.Marks.{placed_grouped, placed_marks}
use Rattle.stmt_run.proofs.placing.group_rows.Goals as goal

pub returns-clause-rows : goal.returns-clause-rows
returns-clause-rows c =
    let columns = c.args.columns.now in
    let order = c.args.order.now in
    let old = c.in_ok-placed.placed.items in
    let new = c.sort_placed.new.placed.items in
    let is : order ≡ ascending columns = search rules in
    let marked : Each (IsMarked columns) old = search rules in
    let sorted : new ≡ sorted_by (placed_before order) old = search rules in
    let parts : now_all c.in_ok-grouped.grouped.rows.items ≡ map (λ (p : Placed). p.row.now) new = search rules in
    let placed : map (λ (p : Placed). p.row.now) old ≡ now_all c.args.rows.now = search rules in
    parts ∙ placed_grouped columns order is old marked new sorted ∙ ap (grouped order) placed

pub returns-clause-marks : goal.returns-clause-marks
returns-clause-marks c =
    let columns = c.args.columns.now in
    let order = c.args.order.now in
    let old = c.in_ok-placed.placed.items in
    let new = c.sort_placed.new.placed.items in
    let is : order ≡ ascending columns = search rules in
    let marked : Each (IsMarked columns) old = search rules in
    let sorted : new ≡ sorted_by (placed_before order) old = search rules in
    let parts : now_all c.in_ok-grouped.grouped.rows.items ≡ map (λ (p : Placed). p.row.now) new = search rules in
    let marks : c.in_ok-grouped.grouped.marks.items ≡ map (λ (p : Placed). p.mark) new = search rules in
    marks ∙ placed_marks columns order is old marked new sorted ∙ ap (map (row_mark columns)) (sym parts)
