use Rattle.std.proofs.Common.{◌≡◌, drop}
use Rattle.pg_catalog.specs.Names.{first_double, first_double_after}
use Rattle.ddl_reader.proofs.known.first_double.Given as goal

abbrev pub invariant-loop-name : goal.invariant-loop-name
invariant-loop-name l = first_double_after l.seen (drop l.name-index l.names) ≡ first_double l.names
