use Rattle.std.proofs.Common.{◌≡◌, ◌+◌, ◌-◌, ◌<◌, map, sum, ap, sym, subst, arith}
use Rattle.stmt_tree.specs.Meaning.{trees_of, trees_in_all}
use Rattle.batch_execute.specs.Taken.{Takes}
use Rattle.batch_execute.proofs.Steps.{found_here, tree_has, takes_one}
use Rattle.batch_execute.proofs.trees.+taking.Goals as goal

pub take_all-returns-then-not-take_rows : goal.take_all-returns-then-not-take_rows
take_all-returns-then-not-take_rows t c =
    let here = found_here c.args.found.now c.loop-one.one-index c.one-item.result c.loop-one-test.true c.one-item.is in
    let rows = ap (λ l. sum (map trees_of l)) c.as_slice.ensures in
    let so = c.loop-one.invariant in
    let less : c.loop-one.left < sum (map trees_of c.as_slice.result.now) = c.if-not-take_rows.ensures in
    omega (arith, here, rows, so, less)

pub take_all-loop-one-preserved : goal.take_all-loop-one-preserved
take_all-loop-one-preserved t c =
    let here = found_here c.args.found.now c.loop-one.one-index c.one-item.result c.loop-one-test.true c.one-item.is in
    let rows = ap (λ l. sum (map trees_of l)) c.as_slice.ensures in
    let so = c.loop-one.invariant in
    let took : c.take_rows.new.left + sum (map trees_of c.as_slice.result.now) ≡ c.loop-one.left = c.if-not-take_rows.ensures in
    omega (arith, here, rows, so, took)

pub take_tree-returns : goal.take_tree-returns
take_tree-returns t c =
    subst (λ n. Takes c.args.left.now c.take_all.new.left n c.take_all.result) (sym (tree_has c.args.tree.now))
    (takes_one c.args.left.now c.take_all.new.left _ c.take_all.result c.if-left-eq0.false
    (subst (λ l. Takes (c.args.left.now - 1) c.take_all.new.left (trees_in_all l) c.take_all.result) c.as_slice.ensures c.take_all.ensures))
