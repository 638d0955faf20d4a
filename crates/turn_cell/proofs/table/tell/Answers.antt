use Rattle.std.proofs.Common.{rules}
use Rattle.turn_cell.proofs.Steps.{tells_one}
use Rattle.turn_cell.proofs.table.tell.Goals as goal

pub load-count-requires : goal.load-count-requires
load-count-requires g c = (search rules, search rules, tells_one _ _ _ _ _ _ _ c.requires.parts)
