use Rattle.std.proofs.Common.{arith}
use Rattle.std.specs.Arc.{arc_value}
use Rattle.planned_response.proofs.FewNeeded.{few_needed}
use Rattle.planned_response.proofs.responding.respond.Goals as goal

pub returns-in-Ok-clause-sent : goal.returns-in-Ok-clause-sent
returns-in-Ok-clause-sent g c =
    let base = arc_value c.args.base.now in
    let vars = c.args.vars.now in
    let few = few_needed base c.args.tree vars c.in-Ok.entry c.in-Ok.ensures.made c.requires.plannable.fit
    (c.noted_hold_at_home.ensures base vars c.args.tree) c.requires.root in
    omega (arith, c.respond_with.ensures.sent, few)
