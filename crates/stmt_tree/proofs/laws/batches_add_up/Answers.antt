use Rattle.stmt_tree.proofs.Batched.{batched_count}
use Rattle.stmt_tree.proofs.laws.batches_add_up.Goals as goal

pub returns : goal.returns
returns c = batched_count c.args.tables.now c.args.stmt.now c.args.keys.now
