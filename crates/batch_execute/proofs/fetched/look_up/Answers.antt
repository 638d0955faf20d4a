use Rattle.std.proofs.Common.{sym, ◌∙◌}
use Rattle.batch_execute.proofs.LookedUp.{searched, missed}
use Rattle.batch_execute.proofs.fetched.look_up.Goals as goal

pub returns-in-Ok : goal.returns-in-Ok
returns-in-Ok c =
    c.at.ensures ∙ searched c.args.order.now c.args.cells.now c.args.keys.now c.args.found.now c.requires c.in-Ok.place c.in-Ok.ensures.within c.in-Ok.ensures.place

pub returns-in-Err : goal.returns-in-Err
returns-in-Err c = sym (missed c.args.order.now c.args.cells.now c.args.keys.now c.args.found.now c.requires c.in-Err.field-0 c.in-Err.ensures.place)
