use Rattle.std.proofs.Common.{◌≡◌, ◌+◌, true, Some, Err, map, drop, refl, ap, sym, ◌∙◌, subst, arith}
use Rattle.std.specs.Prelude.{slice_get}
use Rattle.place_tree.specs.Fold.{same_place}
use Rattle.place_tree.specs.Spent.{Spends}
use Rattle.stmt_tree.specs.declared.found.Found.TheViews.{out-Found}
use Rattle.batch_execute.specs.declared.role.Role.TheVariants.{Each}
use Rattle.batch_execute.specs.Counted.{state_counted, states_counted}
use Rattle.batch_execute.specs.Reading.{onto, found_by, found_or}
use Rattle.batch_execute.specs.Trails.{trail_of}
use Rattle.batch_execute.specs.Visited.{readings_of, way_or, role_or, step_or, found_there, shown_there, rows_there, visited_by}
use Rattle.batch_execute.specs.Nexts.{next_or}
use Rattle.batch_execute.proofs.Counts.{spends_on, spends_stops, counted_next, states_here}
use Rattle.batch_execute.proofs.NextPlaces.{next_after}
use Rattle.batch_execute.proofs.visiting.+visit.Goals as goal

pub visit_each-returns-in-Err-clause-counted : goal.visit_each-returns-in-Err-clause-counted
visit_each-returns-in-Err-clause-counted t c =
    let x = readings_of c.args.r.now in
    let after = drop (c.args.i + 1) c.args.r.now.places.now in
    let trail = trail_of c.args.trail.now.items in
    let f = onto c.args.step trail in
    let rows = c.rows_found-rows.result.now in
    let rows_are : rows ≡ (out-Found (found_there x trail c.args.step)).rows =
    c.rows_found-rows.ensures
    ∙ ap (λ o. (out-Found (found_or o)).rows) (c.found_there.ensures ∙ ap (λ t. found_by c.args.r.now.fetched.now (trail_of t) c.args.step (way_or (slice_get c.args.r.now.ways.now c.args.step))) c.as_slice.ensures.value) in
    let here = states_here (shown_there x) (rows_there x) after c.args.i f rows c.loop-tree.tree-index c.tree-item.result c.loop-tree-test.true c.tree-item.is in
    let all = states_counted (shown_there x) (rows_there x) after c.args.i (map f rows) in
    let whole : all ≡ visited_by x after c.args.i Each (Some c.args.step) trail =
    (let e = ap (λ l. states_counted (shown_there x) (rows_there x) after c.args.i (map f l)) rows_are in omega (arith, e)) in
    let so = ap (λ n. c.args.left.now + n) (sym here) ∙ c.loop-tree.invariant.counted in
    let took : Spends c.loop-tree.left c.visit_tree.new.left (state_counted (shown_there x) (rows_there x) after c.args.i (f c.tree-item.result)) c.visit_tree.result =
    subst (λ t. Spends c.loop-tree.left c.visit_tree.new.left (state_counted (shown_there x) (rows_there x) after c.args.i (onto c.args.step (trail_of t) c.tree-item.result)) c.visit_tree.result) c.loop-tree.invariant.trail c.visit_tree.ensures.counted in
    subst (λ n. Spends {A = Unit {0}} c.args.left.now c.visit_tree.new.left n (Err c.in-Err.fault)) whole
    (spends_stops (Unit {0}) (Unit {0}) c.args.left.now c.loop-tree.left all _ _ c.visit_tree.new.left so c.visit_tree.result c.in-Err.fault took c.in-Err.is)

pub visit_places-returns-in-Err-clause-counted : goal.visit_places-returns-in-Err-clause-counted
visit_places-returns-in-Err-clause-counted t c =
    let x = readings_of c.args.r.now in
    let places = c.args.r.now.places.now in
    let nexts = c.args.r.now.nexts.now in
    let i = c.places.i in
    let trail = trail_of c.args.trail.now.items in
    let under : same_place c.index-r-i.result.parent c.args.parent ≡ true = ap (λ q. same_place q.parent c.args.parent) c.index-r-i.is ∙ sym c.is_below.ensures ∙ c.if-not-is_below.false in
    let here = counted_next (shown_there x) (rows_there x) places nexts c.requires.linked i c.index-r-i.result c.places-test.true c.index-r-i.is c.args.parent trail under (next_or i (slice_get nexts i)) refl in
    let so = ap (λ n. c.args.left.now + n) (sym here) ∙ c.places.invariant.counted in
    let took =
    subst (λ t. Spends c.places.left c.visit_place.new.left (visited_by x (drop (i + 1) places) i (role_or (slice_get c.args.r.now.roles.now i)) (step_or (slice_get c.args.r.now.steps.now i)) (trail_of t)) c.visit_place.result)
    c.places.invariant.trail c.visit_place.ensures.counted in
    spends_stops (Unit {0}) (Unit {0}) c.args.left.now c.places.left _ _ _ c.visit_place.new.left so c.visit_place.result c.in-Err.fault took c.in-Err.is

pub visit_places-places-smaller : goal.visit_places-places-smaller
visit_places-places-smaller t c =
    let after = next_after c.args.r.now.places.now c.args.r.now.nexts.now c.requires.linked c.places.i c.index-r-i.result c.places-test.true c.index-r-i.is c.next_of-i.result c.next_of-i.ensures in
    omega (arith, after, c.places-test.true)

pub visit_places-places-preserved : goal.visit_places-places-preserved
visit_places-places-preserved t c =
    let x = readings_of c.args.r.now in
    let places = c.args.r.now.places.now in
    let nexts = c.args.r.now.nexts.now in
    let i = c.places.i in
    let trail = trail_of c.args.trail.now.items in
    let under : same_place c.index-r-i.result.parent c.args.parent ≡ true = ap (λ q. same_place q.parent c.args.parent) c.index-r-i.is ∙ sym c.is_below.ensures ∙ c.if-not-is_below.false in
    let here = counted_next (shown_there x) (rows_there x) places nexts c.requires.linked i c.index-r-i.result c.places-test.true c.index-r-i.is c.args.parent trail under c.next_of-i.result c.next_of-i.ensures in
    let so = ap (λ n. c.args.left.now + n) (sym here) ∙ c.places.invariant.counted in
    let took =
    subst (λ t. c.visit_place.new.left + visited_by x (drop (i + 1) places) i (role_or (slice_get c.args.r.now.roles.now i)) (step_or (slice_get c.args.r.now.steps.now i)) (trail_of t) ≡ c.places.left)
    c.places.invariant.trail c.in-Ok.ensures.counted in
    record {
      after =
          let more = next_after places nexts c.requires.linked i c.index-r-i.result c.places-test.true c.index-r-i.is c.next_of-i.result c.next_of-i.ensures in
          omega (arith, more, c.places.invariant.after);
      trail = c.in-Ok.ensures.trail ∙ c.places.invariant.trail;
      counted = spends_on c.args.left.now c.places.left _ _ _ c.visit_place.new.left so took;
    }
