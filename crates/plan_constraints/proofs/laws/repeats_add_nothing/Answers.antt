use Rattle.plan_constraints.proofs.Repeats.{noted_hold}
use Rattle.plan_constraints.proofs.laws.repeats_add_nothing.Goals as goal

pub returns : goal.returns
returns c = noted_hold
