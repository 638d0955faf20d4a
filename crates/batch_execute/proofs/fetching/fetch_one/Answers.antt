use Rattle.std.proofs.Common.{◌≡◌, true, length, sym, ap, ◌∙◌, subst, arith}
use Rattle.pg_base.specs.Lists.{Each}
use Rattle.plan_steps.specs.declared.plan.FetchStep.{out-FetchStep}
use Rattle.plan_steps.specs.declared.plan.Step.TheVariants as steps_are
use Rattle.plan_steps.specs.Check.{fetch_fits}
use Rattle.plan_steps.specs.Sent.{one_if, is_sent}
use Rattle.stmt_tree.specs.declared.found.Key.{Key}
use Rattle.batch_execute.specs.Entries.{order_by, is_due}
use Rattle.batch_execute.specs.Fetched.{AreAscending}
use Rattle.batch_execute.specs.Reading.{setting}
use Rattle.batch_execute.specs.Ways.{way_of}
use Rattle.batch_execute.proofs.Checked.{step_told, stmt_told, key_told}
use Rattle.batch_execute.proofs.KeyLengths.{keys_long, keys_rise}
use Rattle.batch_execute.proofs.WaysTold.{WayOf, way_is, due_sent}
use Rattle.batch_execute.proofs.fetching.fetch_one.Goals as goal

pub send-requires-clause-stmt : goal.send-requires-clause-stmt
send-requires-clause-stmt g c =
    let e = c.args.q.now.entry.now in
    let fits : fetch_fits e.base.catalog e.plan.steps c.args.fetch.now ≡ true = step_told e.base e.tree e.plan c.requires.checked c.args.step (steps_are.Fetch c.args.fetch.now) c.requires.is_fetch in
    stmt_told e.base c.args.q.now.vars.now e.plan.steps c.args.fetch.now fits

pub send-requires-clause-keys : goal.send-requires-clause-keys
send-requires-clause-keys g c =
    let e = c.args.q.now.entry.now in
    let f = c.args.fetch.now in
    let fits : fetch_fits e.base.catalog e.plan.steps f ≡ true = step_told e.base e.tree e.plan c.requires.checked c.args.step (steps_are.Fetch f) c.requires.is_fetch in
    let way : c.way_of-way.result ≡ way_of e.plan.steps c.args.step = c.way_of-way.ensures ∙ ap (λ l. way_of l c.args.step) (c.as_slice.ensures ∙ ap (λ p. p.steps) c.plan.ensures) in
    subst (λ l. Each (λ (k : Key). length k.cells ≡ length (out-FetchStep f).by) l) (sym c.in_ok-keys.ensures)
    (keys_long (setting e.base c.args.q.now.vars.now c.args.q.now.root.now) e.plan.steps c.args.fetched.now f (key_told e.base.catalog e.plan.steps f fits) c.way_of-way.result
    (subst (WayOf e.plan.steps f) (sym way) (way_is e.plan.steps c.args.step f c.requires.is_fetch)))

pub send-requires-clause-order : goal.send-requires-clause-order
send-requires-clause-order g c =
    let e = c.args.q.now.entry.now in
    let f = c.args.fetch.now in
    subst (λ o. AreAscending o c.in_ok-keys.keys) (sym c.in_ok-order.ensures)
    (subst (AreAscending (order_by f c.way_of-way.result)) (sym c.in_ok-keys.ensures)
    (keys_rise (setting e.base c.args.q.now.vars.now c.args.q.now.root.now) e.plan.steps c.args.fetched.now f c.way_of-way.result))

pub returns-clause-most : goal.returns-clause-most
returns-clause-most g c =
    let steps = c.args.q.now.entry.now.plan.steps in
    let way : c.way_of-way.result ≡ way_of steps c.args.step = c.way_of-way.ensures ∙ ap (λ l. way_of l c.args.step) (c.as_slice.ensures ∙ ap (λ p. p.steps) c.plan.ensures) in
    let due : is_due c.way_of-way.result c.as_slice-2.result.now ≡ true = sym c.is_due.ensures ∙ c.if-not-is_due.false in
    let sent : is_sent steps c.args.step ≡ true = due_sent steps c.args.step c.way_of-way.result c.as_slice-2.result.now way due in
    let most = c.send.ensures.most in
    let one : one_if (is_sent steps c.args.step) ≡ 1 = ap one_if sent in
    omega (arith, most, one)
