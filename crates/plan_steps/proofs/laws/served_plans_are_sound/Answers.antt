use Rattle.plan_steps.proofs.Served.{serves_sound}
use Rattle.plan_steps.proofs.laws.served_plans_are_sound.Goals as goal

pub returns : goal.returns
returns c = serves_sound
