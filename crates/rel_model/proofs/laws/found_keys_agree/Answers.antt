use Rattle.rel_model.proofs.Agreeing.{key_is}
use Rattle.rel_model.proofs.laws.found_keys_agree.Goals as goal

pub returns : goal.returns
returns c = key_is c.args.by.now c.args.key.now c.args.cells.now c.requires
