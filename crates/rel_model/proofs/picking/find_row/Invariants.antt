use Rattle.std.proofs.Common.{◌≡◌, ◌≤◌, length}
use Rattle.rel_model.specs.Picked.{row_numbered, AreRising}
use Rattle.rel_model.proofs.picking.find_row.Given as goal

abbrev pub invariant-rest : goal.invariant-rest
invariant-rest l = record {
  found : row_numbered l.rest l.number ≡ row_numbered l.rows l.number;
  rising : AreRising l.rest;
  within : length l.rest ≤ length l.rows;
}

abbrev pub decreases-rest : goal.decreases-rest
decreases-rest l = length l.rest
