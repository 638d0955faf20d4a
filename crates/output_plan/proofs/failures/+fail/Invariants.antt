use Rattle.std.proofs.Common.{◌≡◌, ◌≤◌, ◌+◌, ◌-◌, ◌*◌, ◌++◌, List, drop, length, map}
use Rattle.place_tree.specs.Response.{FieldError, member_errors}
use Rattle.response_text.specs.Paths as paths
use Rattle.batch_execute.specs.Reading as reading
use Rattle.batch_execute.specs.Trails.{trail_of}
use Rattle.output_plan.specs.Failures as spec
use Rattle.output_plan.specs.Laid as laid
use Rattle.output_plan.specs.Printed.{members_at}
use Rattle.output_plan.proofs.failures.+fail.Given as goal

abbrev pub decreases-fail_members : goal.decreases-fail_members
decreases-fail_members l = 9 * (length l.r.now.places.now - l.from)

abbrev pub decreases-fail_member : goal.decreases-fail_member
decreases-fail_member l = 9 * (length l.r.now.places.now - l.i) - 1

abbrev pub decreases-fail_place : goal.decreases-fail_place
decreases-fail_place l = 9 * (length l.r.now.places.now - l.i) - 2

abbrev pub decreases-fail_role : goal.decreases-fail_role
decreases-fail_role l = 9 * (length l.r.now.places.now - l.i) - 3

abbrev pub decreases-fail_row : goal.decreases-fail_row
decreases-fail_row l = 9 * (length l.r.now.places.now - l.i) - 4

abbrev pub decreases-fail_each : goal.decreases-fail_each
decreases-fail_each l = 9 * (length l.r.now.places.now - l.i) - 4

abbrev pub decreases-fail_item : goal.decreases-fail_item
decreases-fail_item l = 9 * (length l.r.now.places.now - l.i) - 5

abbrev pub decreases-fail_tree : goal.decreases-fail_tree
decreases-fail_tree l = 9 * (length l.r.now.places.now - l.i) - 6

abbrev pub decreases-fail_object : goal.decreases-fail_object
decreases-fail_object l = 9 * (length l.r.now.places.now - l.i) - 7

abbrev pub decreases-fail_members-places : goal.decreases-fail_members-places
decreases-fail_members-places l = length l.r.places.now - l.i

abbrev pub invariant-fail_members-places : goal.invariant-fail_members-places
invariant-fail_members-places l = record {
  after : l.from ≤ l.i;
  trail : l.trail.items ≡ l.fn.trail.items;
  path : l.path.items ≡ l.fn.path.items;
  text : (rest : List FieldError) → l.out.items ++ paths.errors_left l.written (member_errors (members_at (laid.laid_of l.r) (drop l.i l.r.places.now) l.i l.parent (trail_of l.fn.trail.items)) (map paths.part_of l.fn.path.items) ++ rest)
      ≡ l.fn.out.items ++ paths.errors_left l.some (member_errors (members_at (laid.laid_of l.r) (drop l.from l.r.places.now) l.from l.parent (trail_of l.fn.trail.items)) (map paths.part_of l.fn.path.items) ++ rest);
}

abbrev pub invariant-fail_each-loop-k : goal.invariant-fail_each-loop-k
invariant-fail_each-loop-k l = record {
  trail : l.trail.items ≡ l.fn.trail.items;
  path : l.path.items ≡ l.fn.path.items;
  text : (rest : List FieldError) → l.out.items ++ paths.errors_left l.written (spec.objects_errors (laid.laid_of l.r) (drop (l.i + 1) l.r.places.now) l.i l.k (map (reading.onto l.step (trail_of l.fn.trail.items)) (drop l.k l.rows)) (map paths.part_of l.fn.path.items) ++ rest)
      ≡ l.fn.out.items ++ paths.errors_left l.some (spec.objects_errors (laid.laid_of l.r) (drop (l.i + 1) l.r.places.now) l.i 0 (map (reading.onto l.step (trail_of l.fn.trail.items)) l.rows) (map paths.part_of l.fn.path.items) ++ rest);
}
