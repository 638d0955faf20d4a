use Rattle.std.proofs.Common.{List, sym, subst, reverse}
use Rattle.pg_base.specs.Lists.{EachPair}
use Rattle.ddl_reader.specs.declared.resolving.Destination.{Destination}
use Rattle.ddl_reader.specs.declared.script.RowText.{RowText}
use Rattle.ddl_reader.specs.Destinations.{IsRowInto}
use Rattle.ddl_reader.proofs.ResolvedRows.{rows_resolved}
use Rattle.ddl_reader.proofs.resolving.rows_at.Goals as goal

pub returns-clause-rows : goal.returns-clause-rows
returns-clause-rows c =
    let found = c.in_ok-found.found in
    let places = c.args.places.now in
    let here = subst (λ (l : List Destination). EachPair (IsRowInto places l) c.args.rows (reverse c.in_ok-backwards.backwards)) c.as_slice.ensures c.in_ok-backwards.ensures in
    rows_resolved c.args.catalog.now c.args.firsts.now places found c.in_ok-found.ensures.found c.args.rows c.reversed.result
    (subst (λ (l : List RowText). EachPair (IsRowInto places found) c.args.rows l) (sym c.reversed.ensures) here)
