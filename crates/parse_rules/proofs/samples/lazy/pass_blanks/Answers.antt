use Rattle.std.proofs.Common.{◌∙◌, sym, ap, arith}
use Rattle.std.proofs.lemmas.List.{take_rest}
use Rattle.parse_rules.specs.Lazy.{passed}
use Rattle.parse_rules.proofs.LazySigns.{passed_empty, passed_sign, passed_on, shorter_on}
use Rattle.parse_rules.proofs.samples.lazy.pass_blanks.Goals as goal

pub returns-in_default : goal.returns-in_default
returns-in_default c = passed_empty c.loop-turn.rest.now c.in_default.len_below ∙ sym c.loop-turn.invariant.same

pub returns-then-not-is_blank : goal.returns-then-not-is_blank
returns-then-not-is_blank c = passed_sign c.loop-turn.rest.now _ c.in-len1-up.len_at_least c.is_blank.ensures c.if-not-is_blank.true ∙ sym c.loop-turn.invariant.same

pub loop-turn-preserved : goal.loop-turn-preserved
loop-turn-preserved c = record {
  same = c.loop-turn.invariant.same ∙ passed_on c.loop-turn.rest.now _ c.in-len1-up.len_at_least c.is_blank.ensures c.if-not-is_blank.false ∙ sym (ap passed (take_rest c.loop-turn.rest.now 1));
  left = shorter_on c.loop-turn.rest.now _ _ c.in-len1-up.len_at_least c.loop-turn.invariant.left;
}

pub returns : goal.returns
returns c = passed_empty c.loop-turn.rest.now (let left = c.loop-turn.invariant.left in omega (arith, left, c.loop-turn-test.false)) ∙ sym c.loop-turn.invariant.same
