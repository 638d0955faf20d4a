use Rattle.std.proofs.Common.{◌≡◌, ◌++◌, drop, map}
use Rattle.dedupe_steps.specs.Quotient as spec
use Rattle.dedupe_steps.proofs.quotient.new_steps.Given as goal

abbrev pub invariant-loop-first : goal.invariant-loop-first
invariant-loop-first l = l.new ++ map (spec.new_step l.steps l.to) (drop l.first-index l.firsts) ≡ map (spec.new_step l.steps l.to) l.firsts
