use Rattle.std.proofs.Common.{◌∙◌, sym, arith}
use Rattle.stmt_run.proofs.Groups.{prefix_within, under_at, over_at, told_at}
use Rattle.stmt_run.proofs.grouping.seek.Goals as goal

pub is_under-requires : goal.is_under-requires
is_under-requires c = rw c.key_mark-sought.ensures (told_at c.args.columns.now c.args.order.now c.args.rows.now c.args.marks.now c.args.key.now c.requires.order c.requires.marks _ _ c.index-rows-middle.result (omega arith) c.index-rows-middle.is)

pub low-init : goal.low-init
low-init c = record { low = omega arith; high = prefix_within c.args.rows.now c.args.order.now c.args.key.now c.args.with_key; within = omega arith }

pub low-preserved-then-is_under : goal.low-preserved-then-is_under
low-preserved-then-is_under c =
    let e = under_at c.args.rows.now c.args.order.now c.args.key.now c.args.with_key c.requires.rows.0 c.requires.rows.1 _ c.index-rows-middle.result (omega arith) c.index-rows-middle.is (sym c.is_under.ensures ∙ c.if-is_under.true) in
    record { low = omega (arith, e); high = c.low.invariant.high; within = c.low.invariant.within }

pub low-preserved : goal.low-preserved
low-preserved c =
    let e = over_at c.args.rows.now c.args.order.now c.args.key.now c.args.with_key _ c.index-rows-middle.result (omega arith) c.index-rows-middle.is (sym c.is_under.ensures ∙ c.if-is_under.false) in
    record { low = c.low.invariant.low; high = omega (arith, e); within = omega arith }
