use Rattle.std.proofs.Common.{sym, ap, ◌∙◌, arith}
use Rattle.place_tree.specs.declared.place.Place.{Place}
use Rattle.place_tree.specs.Fold.{same_place}
use Rattle.batch_execute.specs.Trails.{trail_of}
use Rattle.output_plan.specs.Laid.{laid_of}
use Rattle.output_plan.proofs.Members.{goes, stops}
use Rattle.output_plan.proofs.Tables.{next_after}
use Rattle.output_plan.proofs.walking.+put.Goals as goal

pub put_members-returns-in-Err-clause-long : goal.put_members-returns-in-Err-clause-long
put_members-returns-in-Err-clause-long t c =
    stops (laid_of c.args.r.now) c.args.r.now.places.now c.args.r.now.labels.now c.args.r.now.nexts.now c.requires.laid_out c.places.i c.index-r-i.result c.places-test.true c.index-r-i.is
    c.args.parent (trail_of c.args.trail.now.items) (trail_of c.places.trail.items) (ap trail_of c.places.invariant.trail) c.places.due _ _ c.places.invariant.text
    (ap (λ (q : Place). same_place q.parent c.args.parent) c.index-r-i.is ∙ sym c.is_below.ensures ∙ c.if-not-is_below.false) c.in-Err.fault c.in-Err.ensures.long

pub put_members-places-smaller : goal.put_members-places-smaller
put_members-places-smaller t c =
    let after = next_after c.args.r.now.places.now c.args.r.now.labels.now c.args.r.now.nexts.now c.requires.laid_out c.places.i c.index-r-i.result c.places-test.true c.index-r-i.is c.next_of-i.result c.next_of-i.ensures in
    omega (arith, after, c.places-test.true)

pub put_members-places-preserved : goal.put_members-places-preserved
put_members-places-preserved t c =
    record {
      after =
          let more = next_after c.args.r.now.places.now c.args.r.now.labels.now c.args.r.now.nexts.now c.requires.laid_out c.places.i c.index-r-i.result c.places-test.true c.index-r-i.is c.next_of-i.result c.next_of-i.ensures in
          omega (arith, more, c.places.invariant.after);
      trail = c.in-Ok.ensures.trail ∙ c.places.invariant.trail;
      text = goes (laid_of c.args.r.now) c.args.r.now.places.now c.args.r.now.labels.now c.args.r.now.nexts.now c.requires.laid_out c.places.i c.index-r-i.result c.places-test.true c.index-r-i.is
          c.args.parent (trail_of c.args.trail.now.items) (trail_of c.places.trail.items) (ap trail_of c.places.invariant.trail) c.places.due _ _ c.places.invariant.text
          (ap (λ (q : Place). same_place q.parent c.args.parent) c.index-r-i.is ∙ sym c.is_below.ensures ∙ c.if-not-is_below.false) _ c.in-Ok.ensures.text c.next_of-i.result c.next_of-i.ensures;
    }
