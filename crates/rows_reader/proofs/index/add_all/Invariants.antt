use Rattle.std.proofs.Common.{◌≡◌, ◌++◌, take, drop, map, length}
use Rattle.rows_reader.specs.Kept.{grown}
use Rattle.rows_reader.proofs.index.add_all.Given as goal

abbrev pub invariant-loop-i : goal.invariant-loop-i
invariant-loop-i l = record {
  same : take l.i l.indexes.items ++ map (grown l.cells) (drop l.i l.indexes.items) ≡ map (grown l.cells) l.initial.indexes.items;
  long : length l.indexes.items ≡ length l.initial.indexes.items;
}
