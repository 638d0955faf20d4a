use Rattle.std.proofs.Common.{◌≡◌, ◌++◌, ◌-◌, drop, take, map}
use Rattle.list_execution.proofs.finding.copies.Given as goal

abbrev pub invariant-loop-i : goal.invariant-loop-i
invariant-loop-i l = l.copies ++ take (l.upto - l.i) (drop l.i (map (λ r. r.now) l.rows)) ≡ take (l.upto - l.from) (drop l.from (map (λ r. r.now) l.rows))
