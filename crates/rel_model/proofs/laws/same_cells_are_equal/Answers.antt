use Rattle.rel_model.proofs.Agreeing.{same_is}
use Rattle.rel_model.proofs.laws.same_cells_are_equal.Goals as goal

pub returns : goal.returns
returns c = same_is c.args.a.now c.args.b.now
