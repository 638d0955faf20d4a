use Rattle.std.proofs.Common.{◌≡◌, ◌≤◌, ◌-◌, drop, length}
use Rattle.row_tables.specs.Rows as spec
use Rattle.row_tables.proofs.table.is_free.Given as goal

abbrev pub invariant-runs : goal.invariant-runs
invariant-runs l = record {
  free : spec.is_free_in l.places l.row (drop l.at l.rows) ≡ spec.is_free_in l.places l.row l.rows;
  within : l.at ≤ length l.rows;
}

abbrev pub decreases-runs : goal.decreases-runs
decreases-runs l = length l.rows - l.at
