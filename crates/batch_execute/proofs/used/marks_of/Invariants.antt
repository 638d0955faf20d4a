use Rattle.std.proofs.Common.{◌≡◌, ◌≤◌, length}
use Rattle.batch_execute.specs.Used as spec
use Rattle.batch_execute.proofs.used.marks_of.Given as goal

abbrev pub invariant-left : goal.invariant-left
invariant-left l = record {
  within : l.left ≤ length l.steps;
  same : length l.marks.items ≡ length l.steps;
  passed : spec.ArePassed l.fn.places l.steps l.fn.outs l.fn.root l.left l.marks.items;
}

abbrev pub decreases-left : goal.decreases-left
decreases-left l = l.left
