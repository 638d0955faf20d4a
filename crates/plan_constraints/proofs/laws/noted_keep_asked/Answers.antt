use Rattle.plan_constraints.proofs.Asked.{asked_steady}
use Rattle.plan_constraints.proofs.laws.noted_keep_asked.Goals as goal

pub returns : goal.returns
returns c = asked_steady
