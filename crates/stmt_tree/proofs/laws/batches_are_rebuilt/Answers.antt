use Rattle.stmt_tree.proofs.Batched.{batched}
use Rattle.stmt_tree.proofs.laws.batches_are_rebuilt.Goals as goal

pub returns : goal.returns
returns c = batched c.args.tables.now c.args.stmt.now c.args.keys.now
