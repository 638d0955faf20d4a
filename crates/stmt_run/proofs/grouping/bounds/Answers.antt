use Rattle.stmt_run.proofs.Groups.{group_is, seek_order, seek_within}
use Rattle.stmt_run.proofs.grouping.bounds.Goals as goal

pub returns-clause-order : goal.returns-clause-order
returns-clause-order c = seek_order c.args.rows.now c.args.order.now c.args.key.now c.requires.rows.0 c.requires.rows.1 c.seek-from.result c.seek-to.result c.seek-from.ensures c.seek-to.ensures

pub returns-clause-end : goal.returns-clause-end
returns-clause-end c = seek_within c.args.rows.now c.args.order.now c.args.key.now c.requires.rows.0 c.requires.rows.1 c.seek-from.result c.seek-to.result c.seek-from.ensures c.seek-to.ensures

pub returns-clause-group : goal.returns-clause-group
returns-clause-group c = group_is c.args.rows.now c.args.order.now c.args.key.now c.requires.rows.0 c.requires.rows.1 c.seek-from.result c.seek-to.result c.seek-from.ensures c.seek-to.ensures
