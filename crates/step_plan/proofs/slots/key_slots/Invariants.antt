use Rattle.std.proofs.Common.{◌≡◌, ◌++◌, drop}
use Rattle.step_plan.specs.Slots as spec
use Rattle.step_plan.proofs.slots.key_slots.Given as goal

abbrev pub invariant-loop-i : goal.invariant-loop-i
invariant-loop-i l = l.slots ++ spec.key_slots l.schema l.place l.i (drop l.i l.args) ≡ spec.key_slots l.schema l.place 0 l.args
