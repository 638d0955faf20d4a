use Rattle.std.proofs.Common.{◌≡◌, ◌++◌, drop}
use Rattle.std.specs.Str.{IsUtf8}
use Rattle.pg_catalog.specs.Names.{joined}
use Rattle.pg_catalog.proofs.constraints.default_name.Given as goal

abbrev pub invariant-loop-column : goal.invariant-loop-column
invariant-loop-column l = record {
  made : l.bytes.items ++ joined (drop l.column-index l.columns) ≡ l.table ++ joined l.columns;
  text : IsUtf8 l.bytes.items;
}
