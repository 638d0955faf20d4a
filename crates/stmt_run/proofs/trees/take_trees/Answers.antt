use Rattle.stmt_run.proofs.Layers.{taken_turn, left_turn}
use Rattle.stmt_run.proofs.trees.take_trees.Goals as goal

pub loop-turn-preserved : goal.loop-turn-preserved
loop-turn-preserved c = record {
  taken = taken_turn c.args.count c.loop-turn._turn c.loop-turn-test.true c.loop-turn.trees c.take_first.new.queue c.in_ok-take_first.ensures.left _ _ _ c.loop-turn.invariant.taken c.in_ok-take_first.ensures.taken;
  left = left_turn c.args.count c.loop-turn._turn c.loop-turn-test.true c.loop-turn.trees c.take_first.new.queue c.in_ok-take_first.ensures.left _ c.loop-turn.invariant.left;
}
