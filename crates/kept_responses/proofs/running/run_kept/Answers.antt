use Rattle.std.proofs.Common.{◌≡◌, ◌≤◌, sym, subst, arith}
use Rattle.place_tree.specs.Needs.{needed_statements}
use Rattle.plan_steps.specs.Sent.{sent_count}
use Rattle.plan_steps.specs.View.{Planned}
use Rattle.plan_steps.specs.declared.plan.Root.TheVariants as root
use Rattle.kept_responses.specs.Counts.{counts}
use Rattle.kept_responses.specs.Served.{IsRun}
use Rattle.kept_responses.proofs.running.run_kept.Goals as goal

pub returns-clause-run : goal.returns-clause-run
returns-clause-run g c before after =
    let vars = c.args.vars.now in
    let few = subst (λ (p : Planned). sent_count p.tree p.plan root.Query ≤ needed_statements p.base vars p.tree) (sym c.ready-ready.ensures)
    (c.know.ensures.lean.few vars root.Query c.requires.fit c.requires.hold c.know.ensures.root_) in
    subst (λ (p : Planned). IsRun p (g.R.Rows.tables_of c.args.rows.now c.args.at.now) vars
    (counts (g.R.Rows.sent c.args.rows.now) (g.R.Rows.got c.args.rows.now) (g.R.Rows.faults c.args.rows.now) before)
    (counts (g.R.Rows.sent c.respond_with.new.rows) (g.R.Rows.got c.respond_with.new.rows) (g.R.Rows.faults c.respond_with.new.rows) after)
    c.respond_with.result) c.ready-ready.ensures
    (record {
      response = c.respond_with.ensures.response;
      got = c.respond_with.ensures.got;
      rises = c.respond_with.ensures.rises;
      sent = c.respond_with.ensures.sent;
      needs = omega (arith, few, c.respond_with.ensures.sent);
      asked = c.respond_with.ensures.asked;
      faults = c.respond_with.ensures.faults;
      cause = c.respond_with.ensures.cause;
    })
