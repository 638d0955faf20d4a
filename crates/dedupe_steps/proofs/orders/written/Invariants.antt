use Rattle.std.proofs.Common.{◌≡◌, drop}
use Rattle.place_tree.specs.Arguments.{written}
use Rattle.dedupe_steps.proofs.orders.written.Given as goal

abbrev pub invariant-loop-a : goal.invariant-loop-a
invariant-loop-a l = written (drop l.a-index l.args) l.arg ≡ written l.args l.arg
