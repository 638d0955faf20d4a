use Rattle.std.proofs.Common.{◌∙◌, sym, ap, unwrap_or}
use Rattle.inflection.specs.Number.{regular_of}
use Rattle.inflection.proofs.Tables.{ending_of_uncounted, ending_of_others}
use Rattle.inflection.proofs.endings.ending_of.Goals as goal

pub returns-then-is_one_of : goal.returns-then-is_one_of
returns-then-is_one_of c = sym (ending_of_uncounted c.args.number c.args.word.now (sym c.is_one_of.ensures ∙ c.if-is_one_of.true))

pub returns-in-Some : goal.returns-in-Some
returns-in-Some c =
    let by_steps = ending_of_others c.args.number c.args.word.now (sym c.is_one_of.ensures ∙ c.if-is_one_of.false) in
    ap (λ o. unwrap_or o (regular_of c.args.number c.args.word.now)) c.in-Some.ensures ∙ sym by_steps

pub returns-in-None : goal.returns-in-None
returns-in-None c =
    let by_steps = ending_of_others c.args.number c.args.word.now (sym c.is_one_of.ensures ∙ c.if-is_one_of.false) in
    c.regular_ending.ensures ∙ ap (λ o. unwrap_or o (regular_of c.args.number c.args.word.now)) c.in-None.ensures ∙ sym by_steps
