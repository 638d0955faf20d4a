use Rattle.std.proofs.Common.{◌≡◌, drop}
use Rattle.place_tree.specs.Arguments as arguments
use Rattle.step_plan.proofs.written.written.Given as goal

abbrev pub invariant-loop-a : goal.invariant-loop-a
invariant-loop-a l = arguments.written (drop l.a-index l.args) l.arg ≡ arguments.written l.args l.arg
