use Rattle.rel_model.proofs.Rising.{numbered_rise}
use Rattle.rel_model.proofs.laws.numbered_rows_rise.Goals as goal

pub returns : goal.returns
returns c = numbered_rise c.args.from c.args.below c.args.rows.now c.requires
