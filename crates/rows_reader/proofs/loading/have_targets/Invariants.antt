use Rattle.std.proofs.Common.{◌≡◌, [], length}
use Rattle.pg_base.specs.Lists.{Each}
use Rattle.rows_reader.specs.Kept.{IsIndexOf}
use Rattle.rows_reader.proofs.loading.have_targets.Given as goal

abbrev pub invariant-loop-link : goal.invariant-loop-link
invariant-loop-link l = record {
  long : length l.indexes.items ≡ length l.initial.indexes.items;
  empty : Each (Each (IsIndexOf [])) l.initial.indexes.items → Each (Each (IsIndexOf [])) l.indexes.items;
}
