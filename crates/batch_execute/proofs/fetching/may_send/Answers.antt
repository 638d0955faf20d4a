use Rattle.std.proofs.Common.{◌≡◌, true, ap, sym, ◌∙◌}
use Rattle.std.specs.Prelude.{◌&&◌}
use Rattle.plan_steps.specs.Denoted.{moment}
use Rattle.plan_steps.specs.Sent as sent
use Rattle.plan_steps.specs.Under.{is_used}
use Rattle.batch_execute.specs.Asking.{may_ask}
use Rattle.batch_execute.specs.Roles.{roles_of}
use Rattle.batch_execute.proofs.MaySend.{asks_same}
use Rattle.batch_execute.proofs.fetching.may_send.Goals as goal

pub returns-clause-value : goal.returns-clause-value
returns-clause-value c tables =
    let e = c.args.q.now.entry.now in
    let vars = c.args.q.now.vars.now in
    let root = c.args.q.now.root.now in
    let step = c.args.step in
    let places : c.as_slice-places.result.now ≡ e.tree.places = c.as_slice-places.ensures ∙ ap (λ t. t.places) c.tree.ensures in
    let outs : c.as_slice-outs.result.now ≡ e.plan.out = c.as_slice-outs.ensures ∙ ap (λ p. p.out) c.plan.ensures in
    let asks : c.may_ask.result ≡ sent.may_ask (moment e.base tables vars root) e.tree root e.plan.out step =
    c.may_ask.ensures
    ∙ ap (λ x. may_ask x c.args.q.now.roles.now c.as_slice-outs.result.now c.root_place-root.result step) places
    ∙ ap (λ x. may_ask e.tree.places x c.as_slice-outs.result.now c.root_place-root.result step) c.requires.roles
    ∙ ap (λ x. may_ask e.tree.places (roles_of e.base vars e.tree.places) x c.root_place-root.result step) outs
    ∙ ap (λ x. may_ask e.tree.places (roles_of e.base vars e.tree.places) e.plan.out x step) c.root_place-root.ensures
    ∙ asks_same e.base tables vars root e.tree step e.plan.out in
    let used : is_used e.tree e.plan root step ≡ true =
    sym (c.requires.used step c.requires.here) ∙ sym c.is_used.ensures ∙ c.if-not-is_used.false in
    asks ∙ sym (ap (λ b. b && sent.may_ask (moment e.base tables vars root) e.tree root e.plan.out step) used)
