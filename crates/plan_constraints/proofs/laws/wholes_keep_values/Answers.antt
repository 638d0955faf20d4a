use Rattle.plan_constraints.proofs.Kept.{whole_keeps}
use Rattle.plan_constraints.proofs.laws.wholes_keep_values.Goals as goal

pub returns : goal.returns
returns c = whole_keeps
