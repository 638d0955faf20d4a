use Rattle.std.proofs.Common.{◌≡◌, ◌++◌, false, drop}
use Rattle.explain_text.specs.Explained.{column_name}
use Rattle.explain_text.specs.Values.{separated}
use Rattle.explain_text.proofs.fetches.put_columns.Given as goal

abbrev pub invariant-loop-column : goal.invariant-loop-column
invariant-loop-column l =
    l.out.items ++ separated 44 (column_name l.columns) l.due (drop l.column-index l.by)
    ≡ l.initial.out.items ++ separated 44 (column_name l.columns) false l.by
