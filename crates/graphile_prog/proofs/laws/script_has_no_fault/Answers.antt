use Rattle.request_core.proofs.OneAnswer.{loads_no_fault}
use Rattle.graphile_prog.proofs.laws.script_has_no_fault.Goals as goal

pub returns : goal.returns
returns c = loads_no_fault
