use Rattle.std.proofs.Common.{rules, inr}
use Rattle.ddl_reader.proofs.ResolvedRows.{missing}
use Rattle.ddl_reader.proofs.resolving.look_up_columns.Goals as goal

pub returns-in-Some-first_missing-clause-fault : goal.returns-in-Some-first_missing-clause-fault
returns-in-Some-first_missing-clause-fault c =
    inr (missing c.args.insert.now c.args.table.now c.in-Some.names c.as_slice.result.now c.args.known.now c.in-Some-first_missing.name.now c.in_ok-fault.fault (search rules) c.as_slice.ensures c.requires.names (search rules) c.in_ok-fault.ensures)
