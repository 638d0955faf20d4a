use Rattle.std.proofs.Common.{rules}
use Rattle.pg_catalog.specs.Names.{place_of}
use Rattle.pg_catalog.proofs.ListFacts.{filter_map-skips, filter_map-takes}
use Rattle.ddl_reader.proofs.known.Known.places.Goals as goal

pub loop-name-preserved-in_default : goal.loop-name-preserved-in_default
loop-name-preserved-in_default c =
    filter_map-skips (place_of c.args.self.now) c.args.names.now c.loop-name.name-index c.name-item.result c.loop-name-test.true c.name-item.is _ c.loop-name.invariant (search rules)

pub loop-name-preserved : goal.loop-name-preserved
loop-name-preserved c =
    filter_map-takes (place_of c.args.self.now) c.args.names.now c.loop-name.name-index c.name-item.result c.in-Some.place c.loop-name-test.true c.name-item.is _ _ c.loop-name.invariant (search rules) (search rules)
