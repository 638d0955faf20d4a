use Rattle.plan_steps.proofs.Few.{few_found}
use Rattle.plan_steps.proofs.laws.fetches_find_few.Goals as goal

pub returns : goal.returns
returns c = few_found
