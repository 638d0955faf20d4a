use Rattle.std.proofs.Common.{◌≡◌, drop}
use Rattle.place_tree.specs.Arguments as spec
use Rattle.needed_count.proofs.arguments.written.Given as goal

abbrev pub invariant-loop-item : goal.invariant-loop-item
invariant-loop-item l = spec.written (drop l.item-index l.args) l.arg ≡ spec.written l.args l.arg
