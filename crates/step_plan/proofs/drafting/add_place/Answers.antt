use Rattle.std.proofs.Common.{rules}
use Rattle.step_plan.specs.Listed.{so_far}
use Rattle.step_plan.proofs.Turns.{place_added}
use Rattle.step_plan.proofs.drafting.add_place.Goals as goal

pub returns : goal.returns
returns c =
    place_added c.grow.result c.args.base.now c.args.vars.now c.args.places.now c.args.shown (so_far c.args.making.now) (so_far c.grow.new.making) c.args.number c.args.place.now
    c.below_of-above.result c.in_ok-added.added c.len-at.result c.len-new.result
    (search rules) c.in_ok-added.ensures (search rules) (search rules)
    c.grow.ensures.steps c.grow.ensures.layers c.grow.ensures.out c.grow.ensures.belows
