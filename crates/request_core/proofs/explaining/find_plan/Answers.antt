use Rattle.std.proofs.Common.{sym, subst}
use Rattle.std.specs.Prelude.{option_map}
use Rattle.std.specs.Arc.{arc_value}
use Rattle.plan_cache.specs.Shelf.{Asked, Shelved, Shows, Look}
use Rattle.kept_responses.specs.Kept.{KeptParts, key_for}
use Rattle.request_core.proofs.Refused.{if_ok}
use Rattle.request_core.proofs.explaining.find_plan.Goals as goal

pub returns-clause-look : goal.returns-clause-look
returns-clause-look c history shows =
    if_ok c.look.result _ _ (λ found l. subst (λ (w : Asked). Look key_for w history (option_map arc_value found)) c.wanted_of-wanted.ensures l)
    (c.look.ensures.look history (subst (λ (s : Shelved KeptParts). Shows s history) (sym c.shelf.ensures) shows))
