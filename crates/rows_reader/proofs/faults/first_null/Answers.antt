use Rattle.std.proofs.Common.{rules}
use Rattle.rows_reader.proofs.NullTurns.{null_ends}
use Rattle.rows_reader.proofs.faults.first_null.Goals as goal

pub returns : goal.returns
returns c = null_ends c.args.columns.now c.args.cells.now c.loop-i.i c.min-i-end.result _ (search rules) c.loop-i-test.false c.loop-i.invariant
