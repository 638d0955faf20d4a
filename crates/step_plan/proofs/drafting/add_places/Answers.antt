use Rattle.std.proofs.Common.{◌≡◌, ◌<◌, Bool, false, length, get_or, subst, rules}
use Rattle.step_plan.specs.Drafted.{with_shown}
use Rattle.step_plan.specs.Listed.{so_far}
use Rattle.step_plan.proofs.Turns.{places_turn, steps_turn, layers_turn}
use Rattle.step_plan.proofs.drafting.add_places.Goals as goal

pub loop-i-preserved : goal.loop-i-preserved
loop-i-preserved c =
    let lt : c.loop-i.i < length c.args.tree.now.places = search rules in
    let is : c.index-places-i.result ≡ get_or c.args.tree.now.places c.loop-i.i c.index-places-i.result = search rules in
    let shown : Bool = get_or c.args.shown.now c.loop-i.i false in
    let added : so_far c.add_place.new.making ≡ with_shown c.args.base.now c.args.vars.now c.args.tree.now.places shown (so_far c.loop-i.making) c.loop-i.i c.index-places-i.result =
    subst (λ ps. so_far c.add_place.new.making ≡ with_shown c.args.base.now c.args.vars.now ps shown (so_far c.loop-i.making) c.loop-i.i c.index-places-i.result) c.as_slice-places.ensures c.in_ok-add_place.ensures in
    record {
      same = places_turn c.args.base.now c.args.vars.now c.args.tree.now (so_far c.loop-i.making) (so_far c.add_place.new.making) _ c.loop-i.i c.index-places-i.result shown
          lt is (c.requires.shown.told c.loop-i.i lt) added c.loop-i.invariant.same;
      steps = steps_turn c.args.base.now c.args.vars.now c.args.tree.now.places shown (so_far c.loop-i.making) (so_far c.add_place.new.making) c.loop-i.i c.index-places-i.result added c.loop-i.invariant.steps;
      layers = layers_turn c.args.base.now c.args.vars.now c.args.tree.now.places shown (so_far c.loop-i.making) (so_far c.add_place.new.making) c.loop-i.i c.index-places-i.result added c.loop-i.invariant.layers;
    }
