use Rattle.std.proofs.Common.{rules, arith}
use Rattle.std.proofs.lemmas.Grind.{common_steps}
use Rattle.parse_rules.proofs.Turns.{while_begins_within, while_ends, while_goes_on, while_runs_out}
use Rattle.ddl_reader.proofs.ItemLengths.{column_rule-shortens}
use Rattle.ddl_reader.proofs.rules.read_column_rules.Goals as goal

pub loop-turn-init : goal.loop-turn-init
loop-turn-init c = rw c.new-found.ensures (while_begins_within _ _ _ _ column_rule-shortens c.left_at_most-turn-end.ensures.bound)

pub returns-then-not-sees : goal.returns-then-not-sees
returns-then-not-sees c = while_ends _ _ _ _ _ _ _ c.loop-turn-test.true c.loop-turn.invariant c.sees.ensures c.if-not-sees.true

pub returns-in_err-read_column_rule : goal.returns-in_err-read_column_rule
returns-in_err-read_column_rule c =
    let e = while_goes_on _ _ _ _ _ _ _ c.loop-turn-test.true c.loop-turn.invariant c.sees.ensures c.if-not-sees.false in
    first_of (search rules, grind (arith, common_steps))

pub loop-turn-preserved : goal.loop-turn-preserved
loop-turn-preserved c =
    let e = while_goes_on _ _ _ _ _ _ _ c.loop-turn-test.true c.loop-turn.invariant c.sees.ensures c.if-not-sees.false in
    first_of (search rules, grind (arith, common_steps))

pub returns : goal.returns
returns c = while_runs_out _ _ _ _ _ _ c.loop-turn-test.false c.loop-turn.invariant
