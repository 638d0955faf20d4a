use Rattle.dedupe_steps.proofs.Held.{null_of}
use Rattle.dedupe_steps.proofs.orders.null_in.Goals as goal

pub returns-in-List : goal.returns-in-List
returns-in-List c = null_of c.args.constraints.now _ _ _ _ c.in-List.is c.as_slice.ensures c.null_items.ensures
