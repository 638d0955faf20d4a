use Rattle.std.proofs.Common.{arith, ◌+◌, ◌≤◌}
use Rattle.list_execution.proofs.Data.{are_data, taken}
use Rattle.list_execution.proofs.execution.execute.Goals as goal

pub returns-in-Ok-clause-ok : goal.returns-in-Ok-clause-ok
returns-in-Ok-clause-ok c =
    let few : c.visit_members.new.left + taken c.args.base.now c.args.tables.now c.args.vars.now c.args.tree.now c.as_slice-places.result.now ≤ 200000 = omega (arith, c.in-Ok.ensures.spent) in
    are_data c.args.base.now c.args.tables.now c.args.vars.now c.args.tree.now c.as_slice-places.result.now c.new-events.result.items c.visit_members.new.out.items c.visit_members.new.left
    c.as_slice-places.ensures c.new-events.ensures.items c.in-Ok.ensures.written few
