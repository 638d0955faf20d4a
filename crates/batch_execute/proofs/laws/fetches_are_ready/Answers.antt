use Rattle.batch_execute.proofs.Readied.{fetches_ready}
use Rattle.batch_execute.proofs.laws.fetches_are_ready.Goals as goal

pub returns : goal.returns
returns c = fetches_ready
