use Rattle.std.proofs.Common.{◌≡◌, ◌≤◌, ◌+◌, ◌-◌, ◌*◌, drop, length, map}
use Rattle.batch_execute.specs.Counted as count
use Rattle.batch_execute.specs.Reading as reading
use Rattle.batch_execute.specs.Trails.{trail_of}
use Rattle.batch_execute.specs.Visited as spec
use Rattle.batch_execute.proofs.visiting.+visit.Given as goal

abbrev pub decreases-visit_places : goal.decreases-visit_places
decreases-visit_places l = 6 * (length l.r.now.places.now - l.from)

abbrev pub decreases-visit_place : goal.decreases-visit_place
decreases-visit_place l = 6 * (length l.r.now.places.now - l.i) - 1

abbrev pub decreases-visit_role : goal.decreases-visit_role
decreases-visit_role l = 6 * (length l.r.now.places.now - l.i) - 2

abbrev pub decreases-visit_list : goal.decreases-visit_list
decreases-visit_list l = 6 * (length l.r.now.places.now - l.i) - 3

abbrev pub decreases-visit_row : goal.decreases-visit_row
decreases-visit_row l = 6 * (length l.r.now.places.now - l.i) - 3

abbrev pub decreases-visit_each : goal.decreases-visit_each
decreases-visit_each l = 6 * (length l.r.now.places.now - l.i) - 3

abbrev pub decreases-visit_tree : goal.decreases-visit_tree
decreases-visit_tree l = 6 * (length l.r.now.places.now - l.i) - 4

abbrev pub decreases-visit_below : goal.decreases-visit_below
decreases-visit_below l = 6 * (length l.r.now.places.now - l.i) - 5

abbrev pub decreases-visit_places-places : goal.decreases-visit_places-places
decreases-visit_places-places l = length l.r.places.now - l.i

-- what was left and is still to come is what is left and all of it
abbrev pub invariant-visit_places-places : goal.invariant-visit_places-places
invariant-visit_places-places l = record {
  after : l.from ≤ l.i;
  trail : l.trail.items ≡ l.fn.trail.items;
  counted : l.fn.left + count.counted (spec.shown_there (spec.readings_of l.r)) (spec.rows_there (spec.readings_of l.r)) (drop l.i l.r.places.now) l.i l.parent (trail_of l.fn.trail.items)
      ≡ l.left + count.counted (spec.shown_there (spec.readings_of l.r)) (spec.rows_there (spec.readings_of l.r)) (drop l.from l.r.places.now) l.from l.parent (trail_of l.fn.trail.items);
}

abbrev pub invariant-visit_each-loop-tree : goal.invariant-visit_each-loop-tree
invariant-visit_each-loop-tree l = record {
  trail : l.trail.items ≡ l.fn.trail.items;
  counted : l.fn.left + count.states_counted (spec.shown_there (spec.readings_of l.r)) (spec.rows_there (spec.readings_of l.r)) (drop (l.i + 1) l.r.places.now) l.i (map (reading.onto l.step (trail_of l.fn.trail.items)) (drop l.tree-index l.rows))
      ≡ l.left + count.states_counted (spec.shown_there (spec.readings_of l.r)) (spec.rows_there (spec.readings_of l.r)) (drop (l.i + 1) l.r.places.now) l.i (map (reading.onto l.step (trail_of l.fn.trail.items)) l.rows);
}
