use Rattle.std.proofs.Common.{◌≡◌, ◌++◌, drop, map}
use Rattle.output_plan.specs.Layout as spec
use Rattle.output_plan.proofs.layout.all_names.Given as goal

abbrev pub invariant-loop-step : goal.invariant-loop-step
invariant-loop-step l = l.names ++ map (spec.names_of l.base) (drop l.step-index l.steps) ≡ map (spec.names_of l.base) l.steps
