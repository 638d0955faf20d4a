use Rattle.inline_select.proofs.Whole.{moved_read}
use Rattle.inline_select.proofs.laws.moved_fetches_are_read.Goals as goal

pub returns : goal.returns
returns c = moved_read
