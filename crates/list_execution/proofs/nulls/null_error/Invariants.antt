use Rattle.std.proofs.Common.{◌≡◌, drop}
use Rattle.place_tree.specs.Arguments as spec
use Rattle.list_execution.proofs.nulls.null_error.Given as goal

abbrev pub invariant-loop-i : goal.invariant-loop-i
invariant-loop-i l = spec.null_error l.schema l.vars l.place l.i (drop l.i l.args) ≡ spec.null_error l.schema l.vars l.place 0 l.args
