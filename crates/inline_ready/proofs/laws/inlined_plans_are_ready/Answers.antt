use Rattle.inline_ready.proofs.BareReady.{inlined_ready}
use Rattle.inline_ready.proofs.laws.inlined_plans_are_ready.Goals as goal

pub returns : goal.returns
returns c = inlined_ready
