use Rattle.std.proofs.Common.{◌≡◌, drop, take, None}
use Rattle.pg_catalog.specs.Names.{first_double_after}
use Rattle.pg_catalog.proofs.names.Names.of.Given as goal

abbrev pub invariant-loop-name : goal.invariant-loop-name
invariant-loop-name l = record {
  made : l.made ≡ take l.name-index l.names;
  fresh : first_double_after l.made (drop l.name-index l.names) ≡ None;
}
