use Rattle.std.proofs.Common.{◌≡◌, map, rules, arith}
use Rattle.std.proofs.lemmas.Grind.{common_steps}
use Rattle.stmt_tree.specs.Batches.{all_parts, lists_for, column, trees_from}
use Rattle.stmt_tree.specs.declared.stmt.Child.TheViews.{out-Stmt}
use Rattle.stmt_run.specs.Laid.{founds_of}
use Rattle.stmt_run.proofs.Layers.{now_all, batch_count, batch_is, parts_within}
use Rattle.stmt_run.proofs.Room.{cause_more}
use Rattle.std.proofs.lemmas.Result.{err_from_is_err_and}
use Rattle.stmt_run.proofs.batch.+batch.Goals as goal

pub find_batch-returns-in_err-shapes : goal.find_batch-returns-in_err-shapes
find_batch-returns-in_err-shapes t c =
    let p = err_from_is_err_and c.from_residual.result c.from_residual.ensures.1 in
    rw (p.1, p.2) (cause_more _ _ _ c.in_err-shapes.field-0.0 (parts_within c.args.set.now.tables c.args.stmt.now c.args.keys.now) c.in_err-shapes.ensures.room)

pub find_batch-returns-in_err-columns : goal.find_batch-returns-in_err-columns
find_batch-returns-in_err-columns t c =
    let laid : now_all c.lay_out.new.all.items ≡ all_parts c.args.stmt.now (lists_for c.args.set.now.tables c.args.stmt.now c.args.keys.now) = search rules in
    let e = batch_count c.args.set.now.tables c.args.stmt.now c.args.keys.now c.lay_out.new.all.items laid in
    first_of (search rules, grind (arith, common_steps, e))

pub find_batch-returns : goal.find_batch-returns
find_batch-returns t c =
    let laid : now_all c.lay_out.new.all.items ≡ all_parts c.args.stmt.now (lists_for c.args.set.now.tables c.args.stmt.now c.args.keys.now) = search rules in
    let e = batch_count c.args.set.now.tables c.args.stmt.now c.args.keys.now c.lay_out.new.all.items laid in
    let columns : c.in_ok-columns.columns ≡ map (column c.args.set.now.tables (now_all c.lay_out.new.all.items)) (out-Stmt c.args.stmt.now).children = search rules in
    let found : c.in_ok-found.found ≡ founds_of c.in_ok-shapes.shapes (trees_from (now_all c.lay_out.new.all.items) c.in_ok-columns.columns) = search rules in
    let is = batch_is c.args.set.now.tables c.args.stmt.now c.args.keys.now c.lay_out.new.all.items laid c.in_ok-shapes.shapes c.in_ok-columns.columns c.in_ok-found.found c.in_ok-shapes.ensures.shapes columns found in
    (is, first_of (search rules, grind (arith, common_steps, e)))
