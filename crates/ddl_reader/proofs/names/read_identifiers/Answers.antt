use Rattle.std.proofs.Common.{rules, arith}
use Rattle.std.proofs.lemmas.Grind.{common_steps}
use Rattle.parse_rules.specs.Parser.{separated}
use Rattle.parse_rules.proofs.Turns.{separated_begins, separated_ends, separated_goes_on, while_runs_out}
use Rattle.ddl_reader.proofs.ItemLengths.{identifier-keeps}
use Rattle.ddl_reader.proofs.names.read_identifiers.Goals as goal

pub returns-in_err-read_identifier : goal.returns-in_err-read_identifier
unfolding separated
returns-in_err-read_identifier c = first_of (search rules, grind (arith, common_steps))

pub loop-turn-init : goal.loop-turn-init
loop-turn-init c = separated_begins _ _ _ _ _ _ _ _ identifier-keeps c.in_ok-read_identifier.ensures c.left_at_most-turn-end.ensures.bound c.new-found.ensures c.in_ok-push.ensures.ok

pub returns-then-not-eat : goal.returns-then-not-eat
returns-then-not-eat c = separated_ends _ _ _ _ _ _ _ _ c.loop-turn-test.true c.loop-turn.invariant c.eat.ensures.found c.eat.ensures.after c.if-not-eat.true

pub returns-in_err-read_identifier-2 : goal.returns-in_err-read_identifier-2
returns-in_err-read_identifier-2 c =
    let e = separated_goes_on _ _ _ _ _ _ _ _ c.loop-turn-test.true c.loop-turn.invariant c.eat.ensures.found c.eat.ensures.after c.if-not-eat.false in
    first_of (search rules, grind (arith, common_steps))

pub loop-turn-preserved : goal.loop-turn-preserved
loop-turn-preserved c =
    let e = separated_goes_on _ _ _ _ _ _ _ _ c.loop-turn-test.true c.loop-turn.invariant c.eat.ensures.found c.eat.ensures.after c.if-not-eat.false in
    first_of (search rules, grind (arith, common_steps))

pub returns : goal.returns
returns c = while_runs_out _ _ _ _ _ _ c.loop-turn-test.false c.loop-turn.invariant
