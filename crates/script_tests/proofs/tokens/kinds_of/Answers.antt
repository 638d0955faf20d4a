use Rattle.std.proofs.Common.{arith}
use Rattle.pg_base.specs.Pos.{counter_after}
use Rattle.script_tests.proofs.tokens.kinds_of.Goals as goal

pub loop-turn-init : goal.loop-turn-init
unfolding counter_after
loop-turn-init g c = record { within = omega arith; counter = c.start-counter.ensures }
