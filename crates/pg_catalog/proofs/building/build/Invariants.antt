use Rattle.std.proofs.Common.{◌≡◌, drop}
use Rattle.pg_catalog.specs.Built.{catalog_of, catalog_after}
use Rattle.pg_catalog.proofs.building.build.Given as goal

abbrev pub invariant-loop-part : goal.invariant-loop-part
invariant-loop-part l = catalog_after l.growing (drop l.part-index l.parts) ≡ catalog_of l.parts
