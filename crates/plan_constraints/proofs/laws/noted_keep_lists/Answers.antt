use Rattle.plan_constraints.proofs.KeptLists.{lists_steady}
use Rattle.plan_constraints.proofs.laws.noted_keep_lists.Goals as goal

pub returns : goal.returns
returns c = lists_steady
