use Rattle.plan_constraints.proofs.Home.{noted_home}
use Rattle.plan_constraints.proofs.laws.noted_hold_at_home.Goals as goal

pub returns : goal.returns
returns c = noted_home
