use Rattle.std.proofs.Common.{List, ◌++◌, length, reverse}
use Rattle.pg_base.specs.Lists.{EachPair}
use Rattle.ddl_reader.specs.declared.script.RowText.{RowText}
use Rattle.ddl_reader.specs.Destinations.{IsRowInto}
use Rattle.ddl_reader.proofs.resolving.rows_backwards.Given as goal

abbrev pub invariant-loop-row : goal.invariant-loop-row
invariant-loop-row l =
    (before : List RowText) → EachPair (IsRowInto l.places l.destinations) l.left before
    → EachPair (IsRowInto l.places l.destinations) l.fn.rows (before ++ reverse l.made)

abbrev pub decreases-loop-row : goal.decreases-loop-row
decreases-loop-row l = length l.left
