use Rattle.std.proofs.Common.{◌≡◌, ◌++◌, drop}
use Rattle.stmt_run.specs.Laid.{founds_of}
use Rattle.stmt_run.proofs.trees.give_out.Given as goal

abbrev pub invariant-loop-shape : goal.invariant-loop-shape
invariant-loop-shape l = l.found.items ++ founds_of (drop l.shape-index l.shapes) l.left ≡ founds_of l.shapes l.fn.trees.items
