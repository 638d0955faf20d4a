use Rattle.std.proofs.Common.{◌≡◌, ◌≤◌, ◌-◌, drop, length, []}
use Rattle.rel_model.specs.Picked.{passes}
use Rattle.row_tables.specs.Rows.{first}
use Rattle.row_tables.proofs.table.find_by.Given as goal

abbrev pub invariant-runs : goal.invariant-runs
invariant-runs l = record {
  found : first (passes l.places l.cells []) (drop l.at l.rows) ≡ first (passes l.places l.cells []) l.rows;
  within : l.at ≤ length l.rows;
}

abbrev pub decreases-runs : goal.decreases-runs
decreases-runs l = length l.rows - l.at
