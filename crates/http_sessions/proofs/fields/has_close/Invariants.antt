use Rattle.std.proofs.Common.{◌≡◌, ◌-◌, ◌≤◌, length, drop}
use Rattle.http_sessions.specs.HeadTests as spec
use Rattle.http_sessions.proofs.fields.has_close.Given as goal

abbrev pub invariant-parts : goal.invariant-parts
invariant-parts l = record {
  within : l.at ≤ length l.value;
  same : spec.has_close (drop l.at l.value) ≡ spec.has_close l.value;
}

abbrev pub decreases-parts : goal.decreases-parts
decreases-parts l = length l.value - l.at
