use Rattle.std.proofs.Common.{subst, sym}
use Rattle.plan_steps.specs.Sound.{IsSound}
use Rattle.plan_steps.proofs.Few.{fetches_sound}
use Rattle.dedupe_steps.specs.Quotient.{quotient}
use Rattle.dedupe_steps.proofs.Fetching.{fetches_there}
use Rattle.dedupe_steps.proofs.Merging.{merging}
use Rattle.dedupe_steps.proofs.OutsFit.{well_formed}
use Rattle.dedupe_steps.proofs.laws.quotients_are_sound.Goals as goal

pub returns : goal.returns
returns c = λ base tree constraints plan new m.
    let x = merging base tree constraints plan new m in
    subst (λ p. IsSound base p tree constraints) (sym m.quotient.is)
    (fetches_sound base (quotient plan m.quotient.steps m.quotient.layers) tree constraints m.tree_ (well_formed x) (fetches_there x))
