use Rattle.std.proofs.Common.{◌≡◌, ◌++◌, drop}
use Rattle.place_tree.specs.Fetch.{key_cells}
use Rattle.list_execution.proofs.conditions.cells_of_args.Given as goal

abbrev pub invariant-loop-i : goal.invariant-loop-i
invariant-loop-i l = l.cells ++ key_cells l.schema l.vars l.place l.i (drop l.i l.args) ≡ key_cells l.schema l.vars l.place 0 l.args
