use Rattle.std.proofs.Common.{◌≡◌, map, take}
use Rattle.pg_catalog.specs.Names.{column_names}
use Rattle.ddl_reader.proofs.known.names_in.Given as goal

abbrev pub invariant-loop-table : goal.invariant-loop-table
invariant-loop-table l = l.known ≡ map column_names (take l.table-index l.tables)
