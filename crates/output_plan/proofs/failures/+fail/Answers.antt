use Rattle.std.proofs.Common.{◌+◌, ◌∷◌, [], ◌++◌, drop, map, refl, sym, ap, ◌∙◌, subst, ◌≡◌, arith}
use Rattle.std.specs.Prelude.{slice_get}
use Rattle.place_tree.specs.declared.place.Place.{Place}
use Rattle.place_tree.specs.Fold.{same_place}
use Rattle.place_tree.specs.Response.{index, key, member_errors}
use Rattle.stmt_tree.specs.declared.found.Found.TheViews.{out-Found}
use Rattle.response_text.specs.Paths.{errors_left, part_of}
use Rattle.batch_execute.specs.Nexts.{next_or}
use Rattle.batch_execute.specs.Reading.{found_by, found_or, onto}
use Rattle.batch_execute.specs.Trails.{trail_of}
use Rattle.output_plan.specs.Failures.{answer_errors, key_at, key_or, object_errors, objects_errors, pos_at}
use Rattle.output_plan.specs.Laid.{found_there, laid_of, shown_on, way_or}
use Rattle.output_plan.specs.Leaves.{Stops}
use Rattle.output_plan.specs.Printed.{members_at}
use Rattle.output_plan.proofs.Errors.{objects_on}
use Rattle.output_plan.proofs.Tables.{there, next_after}
use Rattle.output_plan.proofs.Turns.{behind, errors_go, stopped}
use Rattle.output_plan.proofs.failures.+fail.Goals as goal

pub fail_member-returns-in-Ok-clause-text : goal.fail_member-returns-in-Ok-clause-text
fail_member-returns-in-Ok-clause-text t c rest =
    c.in-Ok.ensures.text rest
    ∙ ap (λ route. c.args.out.now.items ++ errors_left c.args.some (answer_errors (laid_of c.args.r.now) (drop (c.args.i + 1) c.args.r.now.places.now) c.args.i (pos_at c.args.r.now.places.now c.args.i) (shown_on (laid_of c.args.r.now) c.args.i (trail_of c.args.trail.now.items)) route ++ rest))
    (c.in_ok-push_part.ensures.parts ∙ ap (λ (q : Place). map part_of c.args.path.now.items ++ key q.key ∷ []) (sym c.index-r-i.is) ∙ ap (λ o. map part_of c.args.path.now.items ++ key (key_or o) ∷ []) (sym (there c.args.r.now.places.now c.args.i c.index-r-i.result c.requires.here c.index-r-i.is)))

pub fail_members-places-smaller : goal.fail_members-places-smaller
fail_members-places-smaller t c =
    let after = next_after c.args.r.now.places.now c.args.r.now.labels.now c.args.r.now.nexts.now c.requires.laid_out c.places.i c.index-r-i.result c.places-test.true c.index-r-i.is c.next_of-i.result c.next_of-i.ensures in
    omega (arith, after, c.places-test.true)

pub fail_members-places-preserved : goal.fail_members-places-preserved
fail_members-places-preserved t c =
    record {
      after =
          let more = next_after c.args.r.now.places.now c.args.r.now.labels.now c.args.r.now.nexts.now c.requires.laid_out c.places.i c.index-r-i.result c.places-test.true c.index-r-i.is c.next_of-i.result c.next_of-i.ensures in
          omega (arith, more, c.places.invariant.after);
      trail = c.in-Ok.ensures.trail ∙ c.places.invariant.trail;
      path = c.in-Ok.ensures.path ∙ c.places.invariant.path;
      text = λ rest.
          behind _ _ _ _ _ c.in-Ok.ensures.text
          (member_errors (members_at (laid_of c.args.r.now) (drop c.next_of-i.result c.args.r.now.places.now) c.next_of-i.result c.args.parent (trail_of c.args.trail.now.items)) (map part_of c.args.path.now.items))
          (member_errors (members_at (laid_of c.args.r.now) (drop c.places.i c.args.r.now.places.now) c.places.i c.args.parent (trail_of c.args.trail.now.items)) (map part_of c.args.path.now.items))
          (errors_go (laid_of c.args.r.now) c.args.r.now.places.now c.args.r.now.labels.now c.args.r.now.nexts.now c.requires.laid_out c.places.i c.index-r-i.result c.places-test.true c.index-r-i.is
          c.args.parent (trail_of c.args.trail.now.items) (trail_of c.places.trail.items) (ap trail_of c.places.invariant.trail) c.args.path.now.items c.places.path.items c.places.invariant.path
          (ap (λ (q : Place). same_place q.parent c.args.parent) c.index-r-i.is ∙ sym c.is_below.ensures ∙ c.if-not-is_below.false) c.next_of-i.result c.next_of-i.ensures)
          rest
          ∙ c.places.invariant.text rest;
    }

pub fail_members-returns-in-Err-clause-long : goal.fail_members-returns-in-Err-clause-long
fail_members-returns-in-Err-clause-long t c =
    let x = laid_of c.args.r.now in
    let places = c.args.r.now.places.now in
    let i = c.places.i in
    let n = next_or i (slice_get c.args.r.now.nexts.now i) in
    let s = trail_of c.args.trail.now.items in
    let path = map part_of c.args.path.now.items in
    stopped c.in-Err.fault c.places.out.items c.args.out.now.items c.places.written c.args.some
    (answer_errors x (drop (i + 1) places) i (pos_at places i) (shown_on x i (trail_of c.places.trail.items)) (map part_of c.places.path.items ++ key (key_at places i) ∷ []))
    (member_errors (members_at x (drop n places) n c.args.parent s) path)
    (member_errors (members_at x (drop i places) i c.args.parent s) path)
    (member_errors (members_at x (drop c.args.from places) c.args.from c.args.parent s) path)
    (errors_go x places c.args.r.now.labels.now c.args.r.now.nexts.now c.requires.laid_out i c.index-r-i.result c.places-test.true c.index-r-i.is
    c.args.parent s (trail_of c.places.trail.items) (ap trail_of c.places.invariant.trail) c.args.path.now.items c.places.path.items c.places.invariant.path
    (ap (λ (q : Place). same_place q.parent c.args.parent) c.index-r-i.is ∙ sym c.is_below.ensures ∙ c.if-not-is_below.false) n refl)
    c.in-Err.ensures.long c.places.invariant.text

pub fail_each-returns-in-Err-clause-long : goal.fail_each-returns-in-Err-clause-long
fail_each-returns-in-Err-clause-long t c =
    let x = laid_of c.args.r.now in
    let after = drop (c.args.i + 1) c.args.r.now.places.now in
    let i = c.args.i in
    let k = c.loop-k.k in
    let tree = c.index-rows-k.result in
    let rows = c.rows_found-rows.result.now in
    let path = map part_of c.args.path.now.items in
    let next = objects_errors x after i (k + 1) (map (onto c.args.step (trail_of c.args.trail.now.items)) (drop (k + 1) rows)) path in
    let same : rows ≡ (out-Found (found_there x (trail_of c.args.trail.now.items) c.args.step)).rows =
    c.rows_found-rows.ensures
    ∙ ap (λ o. (out-Found (found_or o)).rows) (c.found_there.ensures ∙ ap (λ l. found_by x.fetched (trail_of l) c.args.step (way_or (slice_get x.ways c.args.step))) c.as_slice.ensures.value) in
    subst (λ l. Stops c.in-Err.fault (c.args.out.now.items ++ errors_left c.args.some (objects_errors x after i 0 (map (onto c.args.step (trail_of c.args.trail.now.items)) l) path))) same
    (stopped c.in-Err.fault c.loop-k.out.items c.args.out.now.items c.loop-k.written c.args.some
    (object_errors x after i (onto c.args.step (trail_of c.loop-k.trail.items) tree) (map part_of c.loop-k.path.items ++ index k ∷ []))
    next
    (objects_errors x after i k (map (onto c.args.step (trail_of c.args.trail.now.items)) (drop k rows)) path)
    (objects_errors x after i 0 (map (onto c.args.step (trail_of c.args.trail.now.items)) rows) path)
    (ap (λ l. object_errors x after i (onto c.args.step (trail_of l) tree) (map part_of c.loop-k.path.items ++ index k ∷ []) ++ next) c.loop-k.invariant.trail
    ∙ ap (λ l. object_errors x after i (onto c.args.step (trail_of c.args.trail.now.items) tree) (map part_of l ++ index k ∷ []) ++ next) c.loop-k.invariant.path
    ∙ sym (objects_on x after i (onto c.args.step (trail_of c.args.trail.now.items)) rows k k tree c.loop-k-test.true c.index-rows-k.is path))
    c.in-Err.ensures.long c.loop-k.invariant.text)
