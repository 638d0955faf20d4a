use Rattle.std.proofs.Common.{◌≡◌, ◌++◌, drop}
use Rattle.ddl_reader.specs.Parts.{column_parts}
use Rattle.ddl_reader.proofs.parts.push_column_rules.Given as goal

abbrev pub invariant-loop-rule : goal.invariant-loop-rule
invariant-loop-rule l =
    l.parts ++ column_parts l.table l.column (drop l.rule-index l.rules)
    ≡ l.fn.parts ++ column_parts l.table l.column l.rules
