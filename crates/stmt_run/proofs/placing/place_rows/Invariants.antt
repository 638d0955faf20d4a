use Rattle.std.proofs.Common.{◌≡◌, ◌++◌, drop, map}
use Rattle.pg_base.specs.Lists.{Each}
use Rattle.stmt_run.specs.Marks.{IsMarked}
use Rattle.stmt_run.proofs.placing.place_rows.Given as goal

abbrev pub invariant-loop-row : goal.invariant-loop-row
invariant-loop-row l = record {
  rows : map (λ p. p.row.now) l.placed.items ++ map (λ r. r.now) (drop l.row-index l.rows) ≡ map (λ r. r.now) l.rows;
  marks : Each (IsMarked l.columns) l.placed.items;
}
