use Rattle.std.proofs.Common.{◌≡◌, drop}
use Rattle.dedupe_steps.specs.Roots as spec
use Rattle.dedupe_steps.proofs.roots.roots.Given as goal

abbrev pub invariant-loop-place : goal.invariant-loop-place
invariant-loop-place l = spec.roots_from l.schema l.done.items (drop l.place-index l.places) ≡ spec.roots l.schema l.places
