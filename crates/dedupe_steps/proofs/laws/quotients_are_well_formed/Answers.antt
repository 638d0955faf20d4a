use Rattle.std.proofs.Common.{subst, sym}
use Rattle.std.specs.Prelude.{IsTrue}
use Rattle.plan_steps.specs.Check.{is_checked}
use Rattle.dedupe_steps.proofs.Merging.{merging}
use Rattle.dedupe_steps.proofs.OutsFit.{well_formed}
use Rattle.dedupe_steps.proofs.laws.quotients_are_well_formed.Goals as goal

pub returns : goal.returns
returns c = λ base tree constraints plan new m. subst (λ p. IsTrue (is_checked base tree p)) (sym m.quotient.is) (well_formed (merging base tree constraints plan new m))
