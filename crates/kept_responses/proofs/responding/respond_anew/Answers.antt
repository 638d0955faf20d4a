use Rattle.std.proofs.Common.{subst}
use Rattle.std.specs.Arc.{arc_value}
use Rattle.planned_response.specs.Plans.{CountsFault}
use Rattle.kept_responses.specs.Served.{asked_of}
use Rattle.kept_responses.proofs.Fitting.{fits}
use Rattle.kept_responses.proofs.Serving.{stopped, stopped_counted}
use Rattle.kept_responses.proofs.responding.respond_anew.Goals as goal

pub respond_new-requires-clause-fits : goal.respond_new-requires-clause-fits
respond_new-requires-clause-fits g c =
    fits c.noted_keep_trees.ensures (arc_value c.args.base.now) (asked_of c.args.wanted.now) c.args.tree c.requires.asks c.in-Ok.ready
    c.in-Ok.ensures.made c.requires.root c.requires.few

pub returns-in-Err-Uncounted-clause-served : goal.returns-in-Err-Uncounted-clause-served
returns-in-Err-Uncounted-clause-served g c history shows look =
    stopped (g.R.Rows.tables_of c.args.rows.now c.args.at.now) (asked_of c.args.wanted.now) c.args.tree history c.args.shelf.now c.args.shelf.now
    shows (g.R.Rows.sent c.args.rows.now) (g.R.Rows.got c.args.rows.now) (g.R.Rows.faults c.args.rows.now) c.args.plans.now c.plan_of.new.plans
    (subst (CountsFault c.args.plans.now c.plan_of.new.plans) c.in-Err-Uncounted.field-0-is c.in-Err-Uncounted.ensures.counted)

pub returns-in-Err-Counted-clause-served : goal.returns-in-Err-Counted-clause-served
returns-in-Err-Counted-clause-served g c history shows look =
    stopped_counted (g.R.Rows.tables_of c.args.rows.now c.args.at.now) (asked_of c.args.wanted.now) c.args.tree history c.args.shelf.now c.args.shelf.now
    look shows (g.R.Rows.sent c.args.rows.now) (g.R.Rows.got c.args.rows.now) (g.R.Rows.faults c.args.rows.now) c.args.plans.now c.plan_of.new.plans
    (subst (CountsFault c.args.plans.now c.plan_of.new.plans) c.in-Err-Counted.field-0-is c.in-Err-Counted.ensures.counted)
