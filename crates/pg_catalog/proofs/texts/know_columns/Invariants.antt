use Rattle.std.proofs.Common.{take}
use Rattle.pg_base.specs.Lists.{Each}
use Rattle.pg_catalog.specs.Texts.{IsTextColumn}
use Rattle.pg_catalog.proofs.texts.know_columns.Given as goal

abbrev pub invariant-loop-column : goal.invariant-loop-column
invariant-loop-column l = Each IsTextColumn (take l.column-index l.columns)
