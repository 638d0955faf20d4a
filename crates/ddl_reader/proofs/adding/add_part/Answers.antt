use Rattle.std.proofs.Common.{inr}
use Rattle.ddl_reader.proofs.WithParts.{one_added, one_refused}
use Rattle.ddl_reader.proofs.adding.add_part.Goals as goal

pub returns-in-Ok : goal.returns-in-Ok
returns-in-Ok c = one_added c.args.catalog c.in-Ok.grown c.args.part.now c.in-Ok.ensures

pub returns-in-Err-Fault : goal.returns-in-Err-Fault
returns-in-Err-Fault c = inr (one_refused c.args.catalog c.args.part.now c.in-Err-Fault.field-0 c.in-Err-Fault.fault c.in-Err-Fault.field-0-is c.in-Err-Fault.ensures)
