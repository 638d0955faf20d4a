use Rattle.std.proofs.Common.{◌≡◌, true, Some, ap, sym, ◌∙◌, subst, arith}
use Rattle.std.specs.Prelude.{◌&&◌, option_map, OnOk}
use Rattle.plan_steps.specs.Denoted.{moment}
use Rattle.plan_steps.specs.Named.{fetch_at}
use Rattle.plan_steps.specs.Sent.{one_if, is_sent, is_sent_for}
use Rattle.plan_steps.specs.Under.{is_used}
use Rattle.batch_execute.specs.Entries.{is_due, keys_at, may_send, is_sent_now}
use Rattle.batch_execute.specs.Execution.{Counts}
use Rattle.batch_execute.specs.Ways.{way_of}
use Rattle.batch_execute.proofs.WaysTold.{sent_used}
use Rattle.batch_execute.proofs.fetching.fetch_step.Goals as goal

pub returns-clause-most : goal.returns-clause-most
returns-clause-most g c =
    let e = c.args.q.now.entry.now in
    let used : is_used e.tree e.plan c.args.q.now.root.now c.args.step ≡ true = c.may_send.ensures.used c.if-not-may_send.false in
    let same : one_if (is_sent_for e.tree e.plan c.args.q.now.root.now c.args.step) ≡ one_if (is_sent e.plan.steps c.args.step) = ap one_if (sent_used (is_sent e.plan.steps c.args.step) (is_used e.tree e.plan c.args.q.now.root.now c.args.step) used) in
    let most = c.fetch_one.ensures.most in
    omega (arith, most, same)

pub returns-clause-sent : goal.returns-clause-sent
returns-clause-sent g c tables =
    let e = c.args.q.now.entry.now in
    let m = moment e.base tables c.args.q.now.vars.now c.args.q.now.root.now in
    let there : fetch_at e.plan.steps c.args.step ≡ Some c.in-Some.fetch.now =
    ap (λ l. fetch_at l c.args.step) (sym (c.as_slice.ensures ∙ ap (λ p. p.steps) c.plan.ensures)) ∙ sym c.fetch_at.ensures ∙ ap (option_map (λ f. f.now)) c.in-Some.is in
    let keys = keys_at m e.plan.steps c.args.fetched.now c.args.step (Some c.in-Some.fetch.now) in
    let now : is_sent_now m e.tree e.plan c.args.q.now.root.now c.args.fetched.now c.args.step ≡ is_due (way_of e.plan.steps c.args.step) keys =
    ap (λ o. may_send m e.tree e.plan c.args.q.now.root.now c.args.step && is_due (way_of e.plan.steps c.args.step) (keys_at m e.plan.steps c.args.fetched.now c.args.step o)) there
    ∙ ap (λ b. b && is_due (way_of e.plan.steps c.args.step) keys) (sym (c.may_send.ensures.value tables) ∙ c.if-not-may_send.false) in
    subst (λ b. OnOk c.fetch_one.result (Counts (g.R.Rows.sent c.args.rows.now) (g.R.Rows.sent c.fetch_one.new.rows) (one_if b))) (sym now) (c.fetch_one.ensures.sent tables)
