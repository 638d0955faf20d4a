use Rattle.std.proofs.Common.{◌≡◌, ◌≤◌, length, drop}
use Rattle.std.specs.HashMap.{get}
use Rattle.schema_build.specs.declared.marks.Marks.{Marks}
use Rattle.schema_build.specs.Places.{same_marks, found_from}
use Rattle.schema_build.proofs.places.places_of.Given as goal

abbrev pub invariant-loop-place : goal.invariant-loop-place
invariant-loop-place l = record {
  within : l.place ≤ length l.roles;
  found : (m : Marks) → get same_marks l.places m ≡ found_from l.place (drop l.place l.roles) m;
}

abbrev pub decreases-loop-place : goal.decreases-loop-place
decreases-loop-place l = l.place
