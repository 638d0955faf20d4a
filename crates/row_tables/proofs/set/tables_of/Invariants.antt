use Rattle.std.proofs.Common.{◌≡◌, ◌++◌, drop}
use Rattle.pg_base.specs.Lists.{EachPair}
use Rattle.row_tables.specs.Set.{IsListOf, parts_of}
use Rattle.row_tables.proofs.set.tables_of.Given as goal

abbrev pub invariant-loop-i : goal.invariant-loop-i
invariant-loop-i l = record {
  made : l.made.items ++ parts_of (drop l.i l.defs) (drop l.i l.lists) ≡ parts_of l.defs l.lists;
  lists : EachPair IsListOf (drop l.i l.defs) (drop l.i l.lists);
}
