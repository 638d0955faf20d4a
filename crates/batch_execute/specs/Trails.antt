-- Trails of borrowed rows.
use Rattle.std.specs.Prelude.{List, map}
use Rattle.batch_execute.specs.declared.reading.Spot.{Spot}
use Rattle.batch_execute.specs.Reading.{Grown, Trail}

abbrev pub grown_of : Spot → Grown
grown_of s = record { step = s.step; tree = s.tree.now }

abbrev pub trail_of : List Spot → Trail
trail_of trail = map grown_of trail
