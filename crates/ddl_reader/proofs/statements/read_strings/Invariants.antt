use Rattle.std.proofs.Common.{◌≡◌, ◌-◌}
use Rattle.parse_rules.specs.Parser.{while_from}
use Rattle.parse_rules.proofs.Separated.{next}
use Rattle.ddl_reader.specs.Reading.{comma, string, strings}
use Rattle.ddl_reader.proofs.statements.read_strings.Given as goal

abbrev pub invariant-loop-turn : goal.invariant-loop-turn
invariant-loop-turn l = strings l.fn.tokens ≡ while_from comma (next comma string) (l._turn-end - l._turn) l.found l.tokens
