use Rattle.std.proofs.Common.{◌≡◌, take}
use Rattle.pg_catalog.specs.Names.{places_of}
use Rattle.ddl_reader.proofs.known.Known.places.Given as goal

abbrev pub invariant-loop-name : goal.invariant-loop-name
invariant-loop-name l = l.places ≡ places_of l.self (take l.name-index l.names)
