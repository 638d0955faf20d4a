use Rattle.std.proofs.Common.{◌≤◌, ◌-◌, length}
use Rattle.std.specs.List.{prefix_len}
use Rattle.stmt_run.specs.Grouped.{is_under, stands_at}
use Rattle.stmt_run.proofs.Layers.{now_all}
use Rattle.stmt_run.proofs.grouping.seek.Given as goal

abbrev pub invariant-low : goal.invariant-low
invariant-low l = record {
  low : l.low ≤ prefix_len (λ r. is_under l.with_key (stands_at l.order l.key r)) (now_all l.rows);
  high : prefix_len (λ r. is_under l.with_key (stands_at l.order l.key r)) (now_all l.rows) ≤ l.high;
  within : l.high ≤ length l.rows;
}

abbrev pub decreases-low : goal.decreases-low
decreases-low l = l.high - l.low
