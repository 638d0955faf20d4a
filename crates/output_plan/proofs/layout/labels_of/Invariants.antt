use Rattle.std.proofs.Common.{◌≡◌, ◌++◌, drop, map}
use Rattle.output_plan.specs.Layout as spec
use Rattle.output_plan.proofs.layout.labels_of.Given as goal

abbrev pub invariant-loop-place : goal.invariant-loop-place
invariant-loop-place l = l.labels ++ map spec.label_of (drop l.place-index l.places) ≡ map spec.label_of l.places
