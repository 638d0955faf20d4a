use Rattle.std.proofs.Common.{◌≡◌, ℕ, ◌<◌, drop, length}
use Rattle.std.specs.Prelude.{None}
use Rattle.std.specs.List.{position_from}
use Rattle.plan_steps.specs.Chains.{is_in}
use Rattle.plan_steps.specs.Named.{layer_of}
use Rattle.dedupe_steps.specs.Orders.{or_else}
use Rattle.dedupe_steps.specs.Sights.{at_or}
use Rattle.dedupe_steps.proofs.sights.layers_of.Given as goal

abbrev pub invariant-loop-i : goal.invariant-loop-i
invariant-loop-i l = record {
  long : length l.laid ≡ l.fn.count;
  same : (k : ℕ) → k < l.fn.count → or_else (at_or None l.laid k) (position_from (λ x. is_in x.steps k) l.i (drop l.i l.layers)) ≡ layer_of l.layers k;
}
