use Rattle.std.proofs.Common.{sym, ◌∙◌, rules}
use Rattle.rel_model.proofs.Comparing.{key_ends}
use Rattle.rel_model.proofs.picking.has_key.Goals as goal

pub returns : goal.returns
returns c = sym (key_ends c.args.by.now c.args.key.now c.args.cells.now c.loop-i.i (search rules)) ∙ c.loop-i.invariant
