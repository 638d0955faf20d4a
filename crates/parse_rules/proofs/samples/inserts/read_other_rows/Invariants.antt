use Rattle.std.proofs.Common.{◌≡◌, ◌-◌}
use Rattle.parse_rules.specs.declared.samples.sign.Wanted.TheVariants as wanted
use Rattle.parse_rules.specs.Parser.{while_from}
use Rattle.parse_rules.specs.Nested.{passes}
use Rattle.parse_rules.specs.Inserts.{other_row, other_rows}
use Rattle.parse_rules.proofs.samples.inserts.read_other_rows.Given as goal

abbrev pub invariant-loop-turn : goal.invariant-loop-turn
invariant-loop-turn l = other_rows l.fn.found l.fn.tokens ≡ while_from (passes wanted.Comma) other_row (l._turn-end - l._turn) l.found l.tokens
