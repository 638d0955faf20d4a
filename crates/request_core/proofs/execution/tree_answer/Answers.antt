use Rattle.std.specs.Arc.{arc_value}
use Rattle.pg_base.specs.Limits.{most_places}
use Rattle.request_core.proofs.NeededFew.{sent_within}
use Rattle.request_core.proofs.execution.tree_answer.Goals as goal

pub returns-in-Ok-clause-sent : goal.returns-in-Ok-clause-sent
returns-in-Ok-clause-sent g c =
    sent_within (arc_value c.args.base.now) c.args.vars.now c.args.tree most_places (g.R.Rows.sent c.args.rows.now) (g.R.Rows.sent c.respond.new.rows) c.requires.may.few c.in-Ok.ensures.sent

pub returns-in-Err-Store-clause-sent : goal.returns-in-Err-Store-clause-sent
returns-in-Err-Store-clause-sent g c =
    sent_within (arc_value c.args.base.now) c.args.vars.now c.args.tree most_places (g.R.Rows.sent c.args.rows.now) (g.R.Rows.sent c.respond.new.rows) c.requires.may.few c.in-Err-Store.ensures.sent

pub returns-in-Err-TooLarge-clause-sent : goal.returns-in-Err-TooLarge-clause-sent
returns-in-Err-TooLarge-clause-sent g c =
    sent_within (arc_value c.args.base.now) c.args.vars.now c.args.tree most_places (g.R.Rows.sent c.args.rows.now) (g.R.Rows.sent c.respond.new.rows) c.requires.may.few c.in-Err-TooLarge.ensures.sent

pub returns-in-Err-Memory-clause-sent : goal.returns-in-Err-Memory-clause-sent
returns-in-Err-Memory-clause-sent g c =
    sent_within (arc_value c.args.base.now) c.args.vars.now c.args.tree most_places (g.R.Rows.sent c.args.rows.now) (g.R.Rows.sent c.respond.new.rows) c.requires.may.few c.in-Err-Memory.ensures.sent
