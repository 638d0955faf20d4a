use Rattle.pg_catalog.proofs.IndexFacts.{short_at, places_there}
use Rattle.pg_catalog.proofs.growing.Growing.places_at.Goals as goal

pub places-requires : goal.places-requires
places-requires c = short_at _ _ c.self.view_is _ _ _ c.self.invariant c.args.place c.requires c.index.result.now c.index.ensures

pub returns : goal.returns
returns c = places_there _ _ c.self.view_is _ _ _ c.self.invariant c.args.place c.requires c.index.result.now c.index.ensures c.args.columns.now _ c.in_ok-places.ensures
