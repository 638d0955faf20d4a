use Rattle.std.proofs.Common.{◌≡◌, ◌-◌}
use Rattle.parse_rules.specs.Parser.{while_from}
use Rattle.ddl_reader.specs.Reading.{comma, other_row, other_rows}
use Rattle.ddl_reader.proofs.rows.read_other_rows.Given as goal

abbrev pub invariant-loop-turn : goal.invariant-loop-turn
invariant-loop-turn l = other_rows l.insert l.fn.found l.fn.tokens ≡ while_from comma (other_row l.insert) (l._turn-end - l._turn) l.found l.tokens
