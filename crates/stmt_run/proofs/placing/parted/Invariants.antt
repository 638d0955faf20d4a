use Rattle.std.proofs.Common.{◌≡◌, ◌++◌, drop, map}
use Rattle.stmt_run.proofs.placing.parted.Given as goal

abbrev pub invariant-loop-one : goal.invariant-loop-one
invariant-loop-one l = record {
  rows : map (λ r. r.now) l.rows.items ++ map (λ p. p.row.now) (drop l.one-index l.placed) ≡ map (λ p. p.row.now) l.placed;
  marks : l.marks.items ++ map (λ p. p.mark) (drop l.one-index l.placed) ≡ map (λ p. p.mark) l.placed;
}
