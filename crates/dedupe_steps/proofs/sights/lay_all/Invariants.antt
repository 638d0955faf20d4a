use Rattle.std.proofs.Common.{◌≡◌, ℕ, ◌<◌, drop, length}
use Rattle.std.specs.Prelude.{Some, None, if◌then◌else◌}
use Rattle.plan_steps.specs.Chains.{is_in}
use Rattle.dedupe_steps.specs.Orders.{or_else}
use Rattle.dedupe_steps.specs.Sights.{at_or}
use Rattle.dedupe_steps.proofs.sights.lay_all.Given as goal

abbrev pub invariant-loop-step : goal.invariant-loop-step
invariant-loop-step l = record {
  long : length l.laid ≡ length l.initial.laid;
  same : (k : ℕ) → k < length l.initial.laid → (if is_in (drop l.step-index l.steps) k then or_else (at_or None l.laid k) (Some l.layer) else at_or None l.laid k) ≡ (if is_in l.steps k then or_else (at_or None l.initial.laid k) (Some l.layer) else at_or None l.initial.laid k);
}
