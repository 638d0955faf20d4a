use Rattle.ddl_reader.proofs.Beside.{beside_stops}
use Rattle.ddl_reader.proofs.whole.read_statement.Goals as goal

pub returns-in-Err : goal.returns-in-Err
returns-in-Err c = beside_stops c.args.enums.now c.args.insert c.args.found.now c.read_rows_after.new.found c.in_ok-statement.statement c.args.tokens.now _ c.read_rows_after.new.tokens c.in-Err.error c.in_ok-statement.ensures c.in-Err.ensures
