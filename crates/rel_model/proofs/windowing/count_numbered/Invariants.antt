use Rattle.std.proofs.Common.{◌≡◌, ◌+◌, ◌≤◌, drop}
use Rattle.std.specs.Prelude.{count_by}
use Rattle.rel_model.specs.Picked as picked
use Rattle.rel_model.specs.Interval as spec
use Rattle.rel_model.proofs.windowing.count_numbered.Given as goal

abbrev pub invariant-loop-number : goal.invariant-loop-number
invariant-loop-number l = record {
  value : l.count + count_by (spec.is_before l.order l.mark l.with_mark) (picked.rows_numbered l.rows (drop l.number-index l.numbers)) ≡ count_by (spec.is_before l.order l.mark l.with_mark) (picked.rows_numbered l.rows l.numbers);
  bound : l.count ≤ l.number-index;
}
