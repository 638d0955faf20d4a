use Rattle.batch_execute.proofs.Steps.{none_on}
use Rattle.batch_execute.proofs.roles.no_steps.Goals as goal

pub loop-turn-preserved : goal.loop-turn-preserved
loop-turn-preserved c = none_on c.args.places.now c.loop-turn.steps.items c.loop-turn.turn c.loop-turn-test.true c.loop-turn.invariant c.push.new.self.items c.in_ok-push.ensures.items
