use Rattle.std.proofs.Common.{rules}
use Rattle.schema_build.proofs.Looking.{added}
use Rattle.schema_build.proofs.meetings.add_part.Goals as goal

pub returns-in-None : goal.returns-in-None
returns-in-None c = added _ _ _ _ _ _ c.in_ok-put_name.ensures (search rules)

pub returns-in_ok-name-in-Some : goal.returns-in_ok-name-in-Some
returns-in_ok-name-in-Some c = added _ _ _ _ _ _ c.in_ok-put_name.ensures (search rules)
