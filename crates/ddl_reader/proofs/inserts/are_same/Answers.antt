use Rattle.std.proofs.Common.{sym, ◌∙◌}
use Rattle.ddl_reader.proofs.FirstInserts.{names_same}
use Rattle.ddl_reader.proofs.inserts.are_same.Goals as goal

pub returns : goal.returns
returns c = λ same. names_same c.args.xs.now c.args.ys.now (sym c.eq.ensures ∙ same)
