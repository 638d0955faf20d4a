use Rattle.std.proofs.Common.{◌≡◌, take, map}
use Rattle.pg_catalog.specs.Columns.{column_of}
use Rattle.pg_catalog.proofs.columns.columns_of.Given as goal

abbrev pub invariant-loop-column : goal.invariant-loop-column
invariant-loop-column l = l.made ≡ map (column_of l.enums) (take l.column-index l.columns)
