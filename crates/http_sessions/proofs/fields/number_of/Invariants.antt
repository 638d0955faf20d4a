use Rattle.std.proofs.Common.{◌≡◌, ◌≤◌, drop}
use Rattle.http_sessions.specs.HeadTests as spec
use Rattle.http_sessions.proofs.fields.number_of.Given as goal

abbrev pub invariant-loop-digit : goal.invariant-loop-digit
invariant-loop-digit l = record {
  small : l.number ≤ 1048576;
  same : spec.number_from l.number (drop l.digit-index l.digits) ≡ spec.number_from 0 l.digits;
}
