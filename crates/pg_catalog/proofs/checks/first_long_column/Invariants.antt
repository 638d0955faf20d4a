use Rattle.std.proofs.Common.{◌≡◌, drop, find, map}
use Rattle.pg_catalog.specs.Names.{is_long}
use Rattle.pg_catalog.proofs.checks.first_long_column.Given as goal

abbrev pub invariant-loop-column : goal.invariant-loop-column
invariant-loop-column l =
    find is_long (map (λ column. column.name) (drop l.column-index l.columns)) ≡ find is_long (map (λ column. column.name) l.columns)
