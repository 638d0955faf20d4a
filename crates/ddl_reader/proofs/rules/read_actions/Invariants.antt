-- the turns so far have read some actions, of which nothing is kept
use Rattle.std.proofs.Common.{◌≡◌, ◌-◌, List}
use Rattle.parse_rules.specs.Parser.{while_from, and_then, pure}
use Rattle.ddl_reader.specs.declared.word.Word.TheVariants as word
use Rattle.ddl_reader.specs.Lexemes.{is_a}
use Rattle.ddl_reader.specs.Reading.{action, actions}
use Rattle.ddl_reader.proofs.rules.read_actions.Given as goal

abbrev pub invariant-loop-turn : goal.invariant-loop-turn
invariant-loop-turn l = (found : List (Unit {0})) × (actions l.fn.tokens ≡ and_then (while_from (is_a word.On) action (l._turn-end - l._turn) found l.tokens) (λ u. pure tt))
