use Rattle.std.proofs.Common.{◌≡◌, ◌≤◌, ◌+◌, ◌-◌, ◌*◌, ◌++◌, codes, drop, length, map}
use Rattle.place_tree.specs.Response.{members_text}
use Rattle.batch_execute.specs.Reading as reading
use Rattle.batch_execute.specs.Trails.{trail_of}
use Rattle.output_plan.specs.Laid as laid
use Rattle.output_plan.specs.Printed as spec
use Rattle.output_plan.proofs.walking.+put.Given as goal

abbrev pub decreases-put_members : goal.decreases-put_members
decreases-put_members l = 8 * (length l.r.now.places.now - l.from)

abbrev pub decreases-put_member : goal.decreases-put_member
decreases-put_member l = 8 * (length l.r.now.places.now - l.i) - 1

abbrev pub decreases-put_place : goal.decreases-put_place
decreases-put_place l = 8 * (length l.r.now.places.now - l.i) - 2

abbrev pub decreases-put_role : goal.decreases-put_role
decreases-put_role l = 8 * (length l.r.now.places.now - l.i) - 3

abbrev pub decreases-put_row : goal.decreases-put_row
decreases-put_row l = 8 * (length l.r.now.places.now - l.i) - 4

abbrev pub decreases-put_each : goal.decreases-put_each
decreases-put_each l = 8 * (length l.r.now.places.now - l.i) - 4

abbrev pub decreases-put_tree : goal.decreases-put_tree
decreases-put_tree l = 8 * (length l.r.now.places.now - l.i) - 5

abbrev pub decreases-put_object : goal.decreases-put_object
decreases-put_object l = 8 * (length l.r.now.places.now - l.i) - 6

abbrev pub decreases-put_members-places : goal.decreases-put_members-places
decreases-put_members-places l = length l.r.places.now - l.i

-- what is written and what is still to come are all of it
abbrev pub invariant-put_members-places : goal.invariant-put_members-places
invariant-put_members-places l = record {
  after : l.from ≤ l.i;
  trail : l.trail.items ≡ l.fn.trail.items;
  text : l.out.items ++ spec.members_left l.due (spec.members_at (laid.laid_of l.r) (drop l.i l.r.places.now) l.i l.parent (trail_of l.fn.trail.items))
      ≡ l.fn.out.items ++ members_text (spec.members_at (laid.laid_of l.r) (drop l.from l.r.places.now) l.from l.parent (trail_of l.fn.trail.items));
}

abbrev pub invariant-put_each-loop-tree : goal.invariant-put_each-loop-tree
invariant-put_each-loop-tree l = record {
  trail : l.trail.items ≡ l.fn.trail.items;
  text : l.out.items ++ (spec.objects_text (laid.laid_of l.r) (drop (l.i + 1) l.r.places.now) l.i l.due (map (reading.onto l.step (trail_of l.fn.trail.items)) (drop l.tree-index l.rows)) ++ codes "]")
      ≡ l.fn.out.items ++ spec.list_text (laid.laid_of l.r) (drop (l.i + 1) l.r.places.now) l.i (map (reading.onto l.step (trail_of l.fn.trail.items)) l.rows);
}
