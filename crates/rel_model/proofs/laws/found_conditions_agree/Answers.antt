use Rattle.rel_model.proofs.Agreeing.{condition_is}
use Rattle.rel_model.proofs.laws.found_conditions_agree.Goals as goal

pub returns : goal.returns
returns c = condition_is c.args.condition.now c.args.cells.now
