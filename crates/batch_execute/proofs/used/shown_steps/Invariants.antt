use Rattle.std.proofs.Common.{◌≡◌, ℕ, ◌<◌, drop, length}
use Rattle.std.specs.Prelude.{◌||◌}
use Rattle.std.specs.List.{list_any}
use Rattle.batch_execute.specs.Used as spec
use Rattle.batch_execute.proofs.used.shown_steps.Given as goal

abbrev pub invariant-loop-out : goal.invariant-loop-out
invariant-loop-out l = record {
  same : length l.marks.items ≡ length l.fn.steps;
  shown : (k : ℕ) → k < length l.fn.steps →
      (spec.mark_at l.marks.items k || list_any (spec.is_shown l.places l.root k) (drop l.out-index l.outs)) ≡ list_any (spec.is_shown l.places l.root k) l.outs;
}
