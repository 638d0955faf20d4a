use Rattle.plan_steps.proofs.Few.{fetches_sound}
use Rattle.plan_steps.proofs.laws.fetches_are_sound.Goals as goal

pub returns : goal.returns
returns c = fetches_sound
