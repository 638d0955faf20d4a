use Rattle.std.proofs.Common.{subst}
use Rattle.response_text.specs.Paths.{AreBelow}
use Rattle.response_text.proofs.Below.{below_front, on_ok}
use Rattle.response_text.proofs.path.close.Goals as goal

pub returns-clause-below : goal.returns-clause-below
returns-clause-below c =
    on_ok c.pass_value.result _ _ (λ f n b. f n (below_front n _ _ (subst (AreBelow n) c.pop-inner.ensures.items b))) c.pass_value.ensures.below
