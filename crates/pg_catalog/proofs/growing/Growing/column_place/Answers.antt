use Rattle.pg_catalog.proofs.IndexFacts.{place_there}
use Rattle.pg_catalog.proofs.growing.Growing.column_place.Goals as goal

pub returns : goal.returns
returns c = place_there _ _ c.self.view_is _ _ _ c.self.invariant c.args.place c.requires c.index.result.now c.index.ensures c.args.name.now c.place.result c.place.ensures.value
