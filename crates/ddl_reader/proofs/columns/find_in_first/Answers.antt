use Rattle.std.proofs.Common.{arith}
use Rattle.ddl_reader.proofs.FirstPlaces.{place_stands, place_misses}
use Rattle.ddl_reader.proofs.columns.find_in_first.Goals as goal

pub returns-then-place-count : goal.returns-then-place-count
returns-then-place-count c = place_stands c.args.place c.args.count (omega arith)

pub returns-else-place-count : goal.returns-else-place-count
returns-else-place-count c = place_misses c.args.place c.args.count (omega arith)
