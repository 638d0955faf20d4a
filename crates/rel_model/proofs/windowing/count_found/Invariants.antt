use Rattle.std.proofs.Common.{◌≡◌, ◌+◌, ◌≤◌, drop, length}
use Rattle.rel_model.specs.Picked as picked
use Rattle.rel_model.proofs.windowing.count_found.Given as goal

abbrev pub invariant-loop-number : goal.invariant-loop-number
invariant-loop-number l = record {
  value : l.count + length (picked.rows_numbered l.rows (drop l.number-index l.numbers)) ≡ length (picked.rows_numbered l.rows l.numbers);
  bound : l.count ≤ l.number-index;
}
