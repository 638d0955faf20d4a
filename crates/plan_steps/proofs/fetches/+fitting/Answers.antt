use Rattle.std.proofs.Common.{◌≡◌, true, rules}
use Rattle.plan_steps.specs.declared.plan.FetchStep.{out-FetchStep}
use Rattle.plan_steps.specs.Check as spec
use Rattle.plan_steps.proofs.Tests.{child_told}
use Rattle.plan_steps.proofs.fetches.+fitting.Goals as goal

pub child_fits-returns : goal.child_fits-returns
child_fits-returns t c =
    let key : spec.key_below c.args.width (out-FetchStep c.args.child.now) ≡ true = search rules in
    let own : spec.own_fits c.args.catalog.now (out-FetchStep c.args.child.now) ≡ true = search rules in
    let below : c.children_fit.result ≡ spec.children_fit c.args.catalog.now (spec.width_of c.args.catalog.now (out-FetchStep c.args.child.now).table) (out-FetchStep c.args.child.now).children = search rules in
    child_told c.args.catalog.now c.args.child.now c.args.width c.children_fit.result key own below
