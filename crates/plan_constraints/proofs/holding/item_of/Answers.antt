use Rattle.std.proofs.Common.{◌∙◌}
use Rattle.plan_constraints.proofs.Parts.{item_found}
use Rattle.plan_constraints.proofs.holding.item_of.Goals as goal

pub returns-in-List : goal.returns-in-List
returns-in-List c = c.get.ensures.value ∙ item_found _ _ _ c.in-List.is
