use Rattle.std.proofs.Common.{◌≡◌, ◌++◌, drop, map}
use Rattle.dedupe_steps.specs.Quotient as spec
use Rattle.dedupe_steps.proofs.quotient.new_out.Given as goal

abbrev pub invariant-loop-o : goal.invariant-loop-o
invariant-loop-o l = l.new ++ map (spec.new_out l.to l.to_layer) (drop l.o-index l.out) ≡ map (spec.new_out l.to l.to_layer) l.out
