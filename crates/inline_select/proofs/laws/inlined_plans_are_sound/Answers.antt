use Rattle.inline_select.proofs.Whole.{inlined_sound}
use Rattle.inline_select.proofs.laws.inlined_plans_are_sound.Goals as goal

pub returns : goal.returns
returns c = inlined_sound
