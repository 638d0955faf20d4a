use Rattle.std.proofs.Common.{take}
use Rattle.pg_base.specs.Lists.{Each}
use Rattle.rows_reader.specs.Texts.{HasTexts}
use Rattle.rows_reader.proofs.texts.know_rows.Given as goal

abbrev pub invariant-loop-row : goal.invariant-loop-row
invariant-loop-row l = Each HasTexts (take l.row-index l.rows)
