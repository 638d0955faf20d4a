use Rattle.std.proofs.Common.{◌-◌, ◌≤◌, length, take}
use Rattle.http_sessions.specs.HeadEnd.{IsScanOf}
use Rattle.http_sessions.proofs.scan.find_end.Given as goal

abbrev pub invariant-bytes : goal.invariant-bytes
invariant-bytes l = record {
  within : l.scan.at ≤ length l.bytes;
  so_far : IsScanOf (take l.scan.at l.bytes) l.scan;
}

abbrev pub decreases-bytes : goal.decreases-bytes
decreases-bytes l = length l.bytes - l.scan.at
