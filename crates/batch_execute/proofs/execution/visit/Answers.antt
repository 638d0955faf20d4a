use Rattle.std.proofs.Common.{◌≡◌, ap, ◌∙◌, subst}
use Rattle.place_tree.specs.Spent.{Spends}
use Rattle.batch_execute.specs.Roles.{steps_of}
use Rattle.batch_execute.specs.Trails.{trail_of}
use Rattle.batch_execute.specs.Ways.{ways_of}
use Rattle.batch_execute.proofs.Listed.{walked}
use Rattle.batch_execute.proofs.execution.visit.Goals as goal

pub returns : goal.returns
returns c =
    let e = c.args.entry.now in
    let places : c.as_slice-places.result.now ≡ e.tree.places = c.as_slice-places.ensures ∙ ap (λ t. t.places) c.tree.ensures in
    let ways : c.as_slice-3.result.now ≡ ways_of e.plan.steps = c.as_slice-3.ensures ∙ c.in_ok-ways.ensures ∙ ap ways_of (c.as_slice.ensures ∙ ap (λ p. p.steps) c.plan-plan.ensures) in
    let steps : c.as_slice-4.result.now ≡ steps_of e.plan.out e.tree.places =
    c.as_slice-4.ensures ∙ c.in_ok-steps.ensures
    ∙ ap (λ l. steps_of l c.as_slice-places.result.now) (c.as_slice-2.ensures ∙ ap (λ p. p.out) c.plan-plan.ensures) ∙ ap (steps_of e.plan.out) places in
    let whole = walked e c.args.fetched.now c.args.roles.now c.args.root.now c.as_slice-3.result.now c.as_slice-4.result.now c.as_slice-places.result.now c.root_place.result (trail_of c.new-trail.result.items)
    ways steps places c.root_place.ensures (ap trail_of c.new-trail.ensures.items) in
    subst (λ n. Spends c.args.left.now c.visit_places.new.left n c.visit_places.result) whole c.visit_places.ensures.counted
