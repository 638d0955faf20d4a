use Rattle.std.proofs.Common.{◌≡◌, ◌∙◌, ap, map, subst}
use Rattle.std.specs.Prelude.{IfOk}
use Rattle.batch_execute.specs.declared.way.Way.TheVariants.{Once, Sent}
use Rattle.batch_execute.specs.Held.{all_rows}
use Rattle.batch_execute.proofs.HeldRows.{held_layer}
use Rattle.batch_execute.proofs.trees.+held_within.Goals as goal

pub returns-in-Once : goal.returns-in-Once
returns-in-Once t c =
    let e = ap all_rows c.found_at.ensures ∙ held_layer c.args.left c.args.steps.now c.args.fetched.now c.args.step Once c.if-left-eq0.false c.in-Once.ensures in
    subst (λ l. IfOk c.all_rows.result (λ trees. map (λ t. t.now) trees.items ≡ l)) e c.all_rows.ensures

pub returns-in-Sent : goal.returns-in-Sent
returns-in-Sent t c =
    let e = ap all_rows c.found_at-in-Sent.ensures ∙ held_layer c.args.left c.args.steps.now c.args.fetched.now c.args.step (Sent c.in-Sent.field-0) c.if-left-eq0.false c.in-Sent.ensures in
    subst (λ l. IfOk c.all_rows-in-Sent.result (λ trees. map (λ t. t.now) trees.items ≡ l)) e c.all_rows-in-Sent.ensures
