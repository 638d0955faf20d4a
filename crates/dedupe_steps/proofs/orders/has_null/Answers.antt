use Rattle.dedupe_steps.proofs.Held.{nulls_of}
use Rattle.dedupe_steps.proofs.orders.has_null.Goals as goal

pub returns-in-List : goal.returns-in-List
returns-in-List c = nulls_of _ _ _ _ c.in-List.is c.as_slice.ensures c.any_null.ensures
