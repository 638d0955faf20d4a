use Rattle.std.proofs.Common.{◌∙◌}
use Rattle.plan_constraints.proofs.Parts.{member_found}
use Rattle.plan_constraints.proofs.holding.member_of.Goals as goal

pub returns-in-Object : goal.returns-in-Object
returns-in-Object c = c.find_member.ensures ∙ member_found _ _ _ _ c.in-Object.is c.as_slice.ensures
