use Rattle.std.proofs.Common.{subst, sym}
use Rattle.plan_steps.specs.Fetches.{IsMerged}
use Rattle.dedupe_steps.proofs.Merging.{merging}
use Rattle.dedupe_steps.proofs.Shared.{merged}
use Rattle.dedupe_steps.proofs.laws.quotients_are_merged.Goals as goal

pub returns : goal.returns
returns c = λ base tree constraints plan new m. subst (IsMerged base tree constraints) (sym m.quotient.is) (merged (merging base tree constraints plan new m))
