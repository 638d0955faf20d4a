use Rattle.std.proofs.Common.{◌≡◌, ◌++◌, drop, map}
use Rattle.batch_execute.specs.Reading.{type_of}
use Rattle.output_plan.proofs.layout.types_of.Given as goal

abbrev pub invariant-loop-place : goal.invariant-loop-place
invariant-loop-place l = l.types ++ map (type_of l.schema) (drop l.place-index l.places) ≡ map (type_of l.schema) l.places
