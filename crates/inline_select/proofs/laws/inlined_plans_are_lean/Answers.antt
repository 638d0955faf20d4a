use Rattle.inline_select.proofs.Lean.{inlined_lean}
use Rattle.inline_select.proofs.laws.inlined_plans_are_lean.Goals as goal

pub returns : goal.returns
returns c = inlined_lean
