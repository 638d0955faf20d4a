use Rattle.std.proofs.Common.{◌≡◌, rules}
use Rattle.plan_constraints.specs.Noted as spec
use Rattle.plan_constraints.specs.Same.{with_constraints}
use Rattle.step_plan.proofs.Notes.{noted_turn}
use Rattle.step_plan.proofs.noting.note_places.Goals as goal

pub loop-place-preserved : goal.loop-place-preserved
loop-place-preserved c =
    let noted : c.note_place.new.list ≡ with_constraints c.loop-place.list (spec.noted_at c.args.base.now c.args.vars.now c.place-item.result) = search rules in
    noted_turn (spec.noted_at c.args.base.now c.args.vars.now) c.args.places.now c.loop-place.place-index c.place-item.result c.loop-place.list c.note_place.new.list _ c.loop-place-test.true c.place-item.is c.loop-place.invariant noted
