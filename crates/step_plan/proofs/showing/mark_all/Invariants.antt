use Rattle.std.proofs.Common.{◌≡◌, drop}
use Rattle.step_plan.specs.Listed.{with_marks}
use Rattle.step_plan.proofs.showing.mark_all.Given as goal

abbrev pub invariant-loop-place : goal.invariant-loop-place
invariant-loop-place l = with_marks l.schema (drop l.place-index l.places) l.shown.items ≡ with_marks l.schema l.places l.fn.shown.items
