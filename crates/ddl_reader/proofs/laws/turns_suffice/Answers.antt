use Rattle.ddl_reader.proofs.ScriptTurns.{turns_enough}
use Rattle.ddl_reader.proofs.laws.turns_suffice.Goals as goal

pub returns : goal.returns
returns c = turns_enough
