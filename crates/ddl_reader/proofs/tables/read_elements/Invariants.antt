use Rattle.std.proofs.Common.{◌≡◌, ◌-◌}
use Rattle.parse_rules.specs.Parser.{while_from}
use Rattle.parse_rules.proofs.Separated.{next}
use Rattle.ddl_reader.specs.Reading.{comma, element, elements}
use Rattle.ddl_reader.proofs.tables.read_elements.Given as goal

abbrev pub invariant-loop-turn : goal.invariant-loop-turn
invariant-loop-turn l = elements l.enums l.fn.tokens ≡ while_from comma (next comma (element l.enums)) (l._turn-end - l._turn) l.found l.tokens
