use Rattle.std.proofs.Common.{◌≡◌, ◌-◌}
use Rattle.parse_rules.specs.declared.samples.sign.Wanted.TheVariants as wanted
use Rattle.parse_rules.specs.Parser.{while_from}
use Rattle.parse_rules.specs.Nested.{passes}
use Rattle.parse_rules.specs.Inserts.{word, words}
use Rattle.parse_rules.proofs.Separated.{next}
use Rattle.parse_rules.proofs.samples.inserts.read_words.Given as goal

abbrev pub invariant-loop-turn : goal.invariant-loop-turn
invariant-loop-turn l = words l.fn.tokens ≡ while_from (passes wanted.Comma) (next (passes wanted.Comma) word) (l._turn-end - l._turn) l.found l.tokens
