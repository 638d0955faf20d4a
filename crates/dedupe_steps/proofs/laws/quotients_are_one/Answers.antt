use Rattle.dedupe_steps.proofs.Unique.{one_quotient}
use Rattle.dedupe_steps.proofs.laws.quotients_are_one.Goals as goal

pub returns : goal.returns
returns c = one_quotient
