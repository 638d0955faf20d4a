use Rattle.std.proofs.Common.{◌≡◌, ◌+◌, ◌*◌, ◌≤◌, drop, length}
use Rattle.step_plan.specs.Drafted as spec
use Rattle.step_plan.specs.Listed.{so_far}
use Rattle.step_plan.proofs.drafting.add_places.Given as goal

abbrev pub invariant-loop-i : goal.invariant-loop-i
invariant-loop-i l = record {
  same : spec.with_places l.base l.vars l.tree (so_far l.making) l.i (drop l.i l.tree.places) ≡ spec.with_places l.base l.vars l.tree (so_far l.fn.making) 0 l.tree.places;
  steps : length l.making.steps.items ≤ 2 * l.i;
  layers : length l.making.layers.items ≤ l.i + 1;
}
