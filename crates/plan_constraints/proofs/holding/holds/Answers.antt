use Rattle.plan_constraints.proofs.Tested.{all_met_decides}
use Rattle.plan_constraints.proofs.holding.holds.Goals as goal

pub returns : goal.returns
returns c = all_met_decides _ _ _ c.all_met.ensures
