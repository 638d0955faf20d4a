use Rattle.std.proofs.Common.{◌≡◌, ◌+◌, ◌-◌, ◌<◌, None, length, drop, subst, arith, eq-eqb}
use Rattle.batch_execute.specs.Reading.{tree_on}
use Rattle.batch_execute.specs.Trails.{trail_of}
use Rattle.batch_execute.proofs.LastRows.{last_here}
use Rattle.batch_execute.proofs.reading.tree_on.Goals as goal

pub returns-then-spot-step : goal.returns-then-spot-step
returns-then-spot-step c =
    let k = c.left.left - 1 in
    let lt : k < length c.args.trail.now = let h = c.left.invariant.within in omega (arith, h, c.left-test.true) in
    let next : c.left.left ≡ k + 1 = omega (arith, c.left-test.true) in
    last_here c.args.trail.now k c.index-trail-left.result lt c.index-trail-left.is c.args.step
    (subst (λ n. tree_on (trail_of (drop n c.args.trail.now)) c.args.step ≡ None) next c.left.invariant.none)
    (eq-eqb c.index-trail-left.result.step c.args.step c.if-spot-step.true)
