use Rattle.std.proofs.Common.{◌∙◌, ap, refl, List, [], ◌∷◌, ◌++◌, rules, arith}
use Rattle.std.proofs.lemmas.Grind.{common_steps}
use Rattle.parse_rules.specs.Parser.{Outcome, and_then, pure}
use Rattle.parse_rules.proofs.Turns.{while_begins_within, while_ends, while_goes_on, while_runs_out}
use Rattle.ddl_reader.specs.declared.lexeme.Lexeme.{Lexeme}
use Rattle.ddl_reader.specs.declared.word.Word.TheVariants as word
use Rattle.ddl_reader.specs.Lexemes.{is_a}
use Rattle.ddl_reader.specs.Reading.{action}
use Rattle.ddl_reader.proofs.ItemLengths.{action-shortens}
use Rattle.ddl_reader.proofs.rules.read_actions.Goals as goal

-- nothing is kept of what was read
abbrev forgets : Outcome Lexeme (List (Unit {0})) → Outcome Lexeme (Unit {0})
forgets o = and_then o (λ u. pure tt)

pub loop-turn-init : goal.loop-turn-init
loop-turn-init c = ([], ap forgets (while_begins_within (is_a word.On) action _ _ action-shortens c.left_at_most-turn-end.ensures.bound))

pub returns-then-not-sees : goal.returns-then-not-sees
returns-then-not-sees c = c.loop-turn.invariant.1 ∙ ap forgets (while_ends (is_a word.On) action _ _ c.loop-turn.invariant.0 _ _ c.loop-turn-test.true refl c.sees.ensures c.if-not-sees.true)

pub returns-in_err-read_action : goal.returns-in_err-read_action
returns-in_err-read_action c =
    let e = c.loop-turn.invariant.1 ∙ ap forgets (while_goes_on (is_a word.On) action _ _ c.loop-turn.invariant.0 _ _ c.loop-turn-test.true refl c.sees.ensures c.if-not-sees.false) in
    first_of (search rules, grind (arith, common_steps))

pub loop-turn-preserved : goal.loop-turn-preserved
loop-turn-preserved c =
    let found = c.loop-turn.invariant.0 in
    let e = c.loop-turn.invariant.1 ∙ ap forgets (while_goes_on (is_a word.On) action _ _ found _ _ c.loop-turn-test.true refl c.sees.ensures c.if-not-sees.false) in
    (found ++ tt ∷ [], first_of (search rules, grind (arith, common_steps)))

pub returns : goal.returns
returns c = c.loop-turn.invariant.1 ∙ ap forgets (while_runs_out (is_a word.On) action _ _ c.loop-turn.invariant.0 _ c.loop-turn-test.false refl)
