use Rattle.std.proofs.Common.{◌≡◌, length, true, false, take, rules}
use Rattle.rel_model.specs.Interval.{interval_of}
use Rattle.rel_model.specs.Ordered.{ordered}
use Rattle.stmt_tree.specs.declared.stmt.Child.TheViews.{out-Stmt}
use Rattle.stmt_run.proofs.Layers.{laid_rows, laid_shape, no_part, now_all}
use Rattle.stmt_run.proofs.laying.lay_list.Goals as goal

pub returns-then-not-stmt-clause-shape : goal.returns-then-not-stmt-clause-shape
returns-then-not-stmt-clause-shape c =
    let at : c.interval_in-from.result ≡ interval_of (out-Stmt c.args.stmt.now).order (out-Stmt c.args.stmt.now).window (now_all c.args.list.now.items) = search rules in
    let asked : (out-Stmt c.args.stmt.now).rows ≡ false = search rules in
    let all : c.len-total.result ≡ length c.args.list.now.items = search rules in
    no_part c.args.stmt.now c.args.list.now.items c.args.list.now.items c.interval_in-from.result at c.len-total.result all asked

pub returns-clause-shape : goal.returns-clause-shape
returns-clause-shape c =
    let at : c.interval_in-from.result ≡ interval_of (out-Stmt c.args.stmt.now).order (out-Stmt c.args.stmt.now).window (now_all c.args.list.now.items) = search rules in
    let asked : (out-Stmt c.args.stmt.now).rows ≡ true = search rules in
    let all : c.len-total.result ≡ length c.args.list.now.items = search rules in
    let kept : now_all c.as_slice-2.result.now ≡ take c.interval_in-from.result.1 (ordered (out-Stmt c.args.stmt.now).order (now_all c.args.list.now.items)) = search rules in
    laid_shape c.args.stmt.now c.args.list.now.items c.as_slice-2.result.now c.interval_in-from.result at asked kept c.len-total.result c.in_ok-count.count all c.in_ok-count.ensures.count

pub returns-clause-rows : goal.returns-clause-rows
returns-clause-rows c =
    let at : c.interval_in-from.result ≡ interval_of (out-Stmt c.args.stmt.now).order (out-Stmt c.args.stmt.now).window (now_all c.args.list.now.items) = search rules in
    let asked : (out-Stmt c.args.stmt.now).rows ≡ true = search rules in
    let kept : now_all c.as_slice-2.result.now ≡ take c.interval_in-from.result.1 (ordered (out-Stmt c.args.stmt.now).order (now_all c.args.list.now.items)) = search rules in
    laid_rows c.args.stmt.now c.args.list.now.items c.as_slice-2.result.now c.interval_in-from.result at asked kept c.args.all.now.items c.append_from.new.all.items c.in_ok-count.ensures.rows
