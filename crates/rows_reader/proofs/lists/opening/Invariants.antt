use Rattle.std.proofs.Common.{◌≡◌, ◌++◌, drop, map}
use Rattle.rows_reader.specs.Loaded.{no_rows}
use Rattle.rows_reader.proofs.lists.opening.Given as goal

abbrev pub invariant-loop-table : goal.invariant-loop-table
invariant-loop-table l = l.lists.items ++ map no_rows (drop l.table-index l.tables) ≡ map no_rows l.tables
