use Rattle.std.proofs.Common.{drop}
use Rattle.rows_reader.proofs.Walk.{IsWalk}
use Rattle.rows_reader.proofs.references.check_references.Given as goal

abbrev pub invariant-loop-row : goal.invariant-loop-row
invariant-loop-row l = IsWalk l.catalog l.lists l.rows (drop l.row-index l.rows) l.passed.items
