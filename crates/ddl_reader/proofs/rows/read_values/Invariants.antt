use Rattle.std.proofs.Common.{◌≡◌, ◌-◌}
use Rattle.parse_rules.specs.Parser.{while_from}
use Rattle.parse_rules.proofs.Separated.{next}
use Rattle.ddl_reader.specs.Reading.{comma, value, values}
use Rattle.ddl_reader.proofs.rows.read_values.Given as goal

abbrev pub invariant-loop-turn : goal.invariant-loop-turn
invariant-loop-turn l = values l.fn.tokens ≡ while_from comma (next comma value) (l._turn-end - l._turn) l.found l.tokens
