use Rattle.std.proofs.Common.{◌≡◌, drop}
use Rattle.rows_reader.specs.Kept.{AreKept}
use Rattle.rows_reader.specs.Loaded.{lists_after}
use Rattle.rows_reader.proofs.loading.add_rows.Given as goal

abbrev pub invariant-loop-row : goal.invariant-loop-row
invariant-loop-row l = record {
  due : lists_after l.catalog l.lists.items (drop l.row-index l.rows) ≡ lists_after l.catalog l.initial.lists.items l.rows;
  kept : AreKept l.catalog l.lists.items l.indexes.items;
}
