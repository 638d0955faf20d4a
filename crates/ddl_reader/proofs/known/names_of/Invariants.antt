use Rattle.std.proofs.Common.{◌≡◌, map, take}
use Rattle.ddl_reader.proofs.known.names_of.Given as goal

abbrev pub invariant-loop-column : goal.invariant-loop-column
invariant-loop-column l = l.known ≡ map (λ column. column.name) (take l.column-index l.columns)
