use Rattle.std.proofs.Common.{◌≡◌, ◌+◌, ◌≤◌, drop, map}
use Rattle.std.specs.Prelude.{count_by}
use Rattle.rel_model.specs.Interval as spec
use Rattle.rel_model.proofs.windowing.count_in.Given as goal

abbrev pub invariant-loop-row : goal.invariant-loop-row
invariant-loop-row l = record {
  value : l.count + count_by (spec.is_before l.order l.mark l.with_mark) (map (λ r. r.now) (drop l.row-index l.rows)) ≡ count_by (spec.is_before l.order l.mark l.with_mark) (map (λ r. r.now) l.rows);
  bound : l.count ≤ l.row-index;
}
