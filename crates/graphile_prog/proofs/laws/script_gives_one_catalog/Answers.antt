use Rattle.request_core.proofs.OneAnswer.{loads_once}
use Rattle.graphile_prog.proofs.laws.script_gives_one_catalog.Goals as goal

pub returns : goal.returns
returns c = loads_once
