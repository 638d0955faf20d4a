use Rattle.std.proofs.Common.{take}
use Rattle.std.specs.Str.{IsUtf8}
use Rattle.pg_base.specs.Lists.{Each}
use Rattle.pg_catalog.proofs.texts.know_texts.Given as goal

abbrev pub invariant-loop-text : goal.invariant-loop-text
invariant-loop-text l = Each IsUtf8 (take l.text-index l.texts)
