use Rattle.inline_select.proofs.Fixed.{fetches_stand}
use Rattle.inline_select.proofs.laws.fetches_stand_below.Goals as goal

pub returns : goal.returns
returns c = fetches_stand
