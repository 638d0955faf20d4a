use Rattle.std.proofs.Common.{◌≡◌, ◌≤◌, length, take}
use Rattle.pg_base.specs.Pos.{start, counter_after}
use Rattle.script_tests.proofs.tokens.kinds_of.Given as goal

abbrev pub invariant-loop-turn : goal.invariant-loop-turn
invariant-loop-turn g l = record { within : l.at ≤ length l.text; counter : l.counter ≡ counter_after start (take l.at l.text) }
