use Rattle.std.proofs.Common.{rules}
use Rattle.stmt_run.proofs.Layers.{firsts_turn, columns_turn}
use Rattle.stmt_run.proofs.trees.take_firsts.Goals as goal

pub loop-i-preserved : goal.loop-i-preserved
loop-i-preserved c = record {
  taken = firsts_turn c.args.columns.now.items c.loop-i.columns.items c.loop-i.i c.index_mut.result.now c.take_first.new.queue c.loop-i.invariant.left (search rules) c.index_mut.ensures.value _ _ _ c.loop-i.invariant.taken c.in_ok-take_first.ensures.taken;
  left = columns_turn c.args.columns.now.items c.loop-i.columns.items c.loop-i.i c.index_mut.result.now c.take_first.new.queue c.loop-i.invariant.left (search rules) c.index_mut.ensures.value c.in_ok-take_first.ensures.left;
}
