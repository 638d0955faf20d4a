use Rattle.std.proofs.Common.{◌≡◌, ◌+◌, [], length, drop}
use Rattle.pg_base.specs.Lists.{Each}
use Rattle.rows_reader.specs.Kept.{IsIndexOf}
use Rattle.rows_reader.proofs.loading.all_indexes.Given as goal

abbrev pub invariant-loop-table : goal.invariant-loop-table
invariant-loop-table l = record {
  long : length l.all.items + length (drop l.table-index l.tables) ≡ length l.tables;
  empty : Each (Each (IsIndexOf [])) l.all.items;
}

abbrev pub invariant-loop-table-2 : goal.invariant-loop-table-2
invariant-loop-table-2 l = record {
  long : length l.all.items ≡ length l.tables;
  empty : Each (Each (IsIndexOf [])) l.all.items;
}
