use Rattle.std.proofs.Common.{◌≡◌, ◌≤◌, ◌++◌, ◌-◌, drop, map, length}
use Rattle.rel_model.specs.Picked as spec
use Rattle.row_tables.specs.Set.{list_at}
use Rattle.stmt_run.proofs.picking.pick_rows.Given as goal

abbrev pub invariant-runs : goal.invariant-runs
invariant-runs l = record {
  found : map (λ r. r.now) l.found.items ++ spec.picked_from l.by l.key l.condition (drop l.at (list_at l.set l.table).rows) ≡ spec.picked l.set.tables l.table l.by l.key l.condition;
  within : l.at ≤ length (list_at l.set l.table).rows;
}

abbrev pub decreases-runs : goal.decreases-runs
decreases-runs l = length (list_at l.set l.table).rows - l.at
