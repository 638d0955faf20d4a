use Rattle.std.proofs.Common.{◌≡◌, ◌-◌}
use Rattle.parse_rules.specs.Parser.{while_from}
use Rattle.ddl_reader.specs.declared.lexeme.Expected.TheVariants as want
use Rattle.ddl_reader.specs.Lexemes.{is}
use Rattle.ddl_reader.specs.Reading.{column_rule, column_rules}
use Rattle.ddl_reader.proofs.rules.read_column_rules.Given as goal

abbrev pub invariant-loop-turn : goal.invariant-loop-turn
invariant-loop-turn l = column_rules l.fn.tokens ≡ while_from (is want.ColumnRule) column_rule (l._turn-end - l._turn) l.found l.tokens
