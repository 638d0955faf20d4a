use Rattle.plan_constraints.proofs.KeptLists.{needs_steady}
use Rattle.plan_constraints.proofs.laws.noted_keep_needs.Goals as goal

pub returns : goal.returns
returns c = needs_steady
