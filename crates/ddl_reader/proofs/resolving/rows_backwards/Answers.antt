use Rattle.ddl_reader.specs.Destinations.{IsRowInto}
use Rattle.ddl_reader.proofs.ResolvedRows.{backwards_more, backwards_end}
use Rattle.ddl_reader.proofs.resolving.rows_backwards.Goals as goal

pub loop-row-preserved : goal.loop-row-preserved
loop-row-preserved c = backwards_more (IsRowInto c.args.places.now c.args.destinations.now) c.args.rows c.loop-row.left c.pop.new.self c.in-Some.row c.loop-row.made c.push.new.self c.in_ok-text.text c.in-Some.ensures c.in_ok-push.ensures.ok c.loop-row.invariant c.in_ok-text.ensures

pub returns : goal.returns
returns c = backwards_end (IsRowInto c.args.places.now c.args.destinations.now) c.args.rows c.loop-row.left c.loop-row.made c.in_default.ensures.0 c.loop-row.invariant
