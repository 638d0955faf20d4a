use Rattle.std.proofs.Common.{◌≡◌, ◌≤◌, drop, map, take, length}
use Rattle.rel_model.specs.Ordered.{ordered}
use Rattle.rel_model.proofs.selecting.first_rows.Given as goal

abbrev pub invariant-rows : goal.invariant-rows
invariant-rows l = record {
  first : map (λ r. r.now) l.first.items ≡ take l.count (ordered l.order (map (λ r. r.now) (drop l.at l.rows)));
  within : l.at ≤ length l.rows;
}

abbrev pub decreases-rows : goal.decreases-rows
decreases-rows l = l.at
