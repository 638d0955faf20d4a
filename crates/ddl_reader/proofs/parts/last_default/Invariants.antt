use Rattle.std.proofs.Common.{◌≡◌, drop}
use Rattle.std.specs.Option.{option_copied}
use Rattle.ddl_reader.specs.Parts.{default_after, last_default}
use Rattle.ddl_reader.proofs.parts.last_default.Given as goal

abbrev pub invariant-loop-rule : goal.invariant-loop-rule
invariant-loop-rule l = default_after (option_copied l.last) (drop l.rule-index l.rules) ≡ last_default l.rules
