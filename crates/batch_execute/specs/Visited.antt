-- The same count of rows, by tables of what each place and each step is.
use Rattle.std.specs.Prelude.{ℕ, ◌+◌, List, [], Option, Some, None, slice_get}
use Rattle.place_tree.specs.declared.answer.Answer.{Answer}
use Rattle.place_tree.specs.declared.answer.Answer.TheVariants.{Shows}
use Rattle.place_tree.specs.declared.answer.Leaf.TheVariants.{Null as null}
use Rattle.place_tree.specs.declared.place.Place.{Place}
use Rattle.stmt_tree.specs.declared.found.Found.{Found}
use Rattle.plan_steps.specs.declared.plan.Root.{Root}
use Rattle.plan_steps.specs.Under.{root_place}
use Rattle.plan_steps.specs.View.{Planned}
use Rattle.batch_execute.specs.declared.visiting.Reader.{Reader}
use Rattle.batch_execute.specs.declared.role.Role.{Role}
use Rattle.batch_execute.specs.declared.role.Role.TheVariants.{OfLeaf}
use Rattle.batch_execute.specs.declared.way.Way.{Way}
use Rattle.batch_execute.specs.declared.way.Way.TheVariants.{Other}
use Rattle.batch_execute.specs.Counted.{counted, answer_counted, rows_shown}
use Rattle.batch_execute.specs.Fetched.{FetchedParts}
use Rattle.batch_execute.specs.Roles.{steps_of}
use Rattle.batch_execute.specs.Ways.{ways_of}
use Rattle.batch_execute.specs.Reading.{Trail, found_by, found_or, shown_by}

-- how the rows of each step are come by, what was found for it, and what each place shows of which step
pub record Readings : Type 0 where
  pub ways : List Way
  pub fetched : List FetchedParts
  pub roles : List Role
  pub steps : List (Option ℕ)

abbrev pub readings_of : Reader → Readings
readings_of r =
    record { ways = r.ways.now; fetched = r.fetched.now; roles = r.roles.now; steps = r.steps.now }

abbrev pub way_or : Option Way → Way
way_or None = Other
way_or (Some way) = way

abbrev pub role_or : Option Role → Role
role_or None = OfLeaf
role_or (Some role) = role

abbrev pub step_or : Option (Option ℕ) → Option ℕ
step_or None = None
step_or (Some step) = step

-- what the step at k found at a trail
abbrev pub found_there : Readings → Trail → ℕ → Found
found_there x trail k = found_or (found_by x.fetched trail k (way_or (slice_get x.ways k)))

abbrev pub shown_of : Readings → Role → Trail → Option ℕ → Answer Trail
shown_of x role trail None = Shows null
shown_of x role trail (Some k) = shown_by role k trail (found_there x trail k) null

abbrev pub rows_of : Readings → Role → Trail → Option ℕ → ℕ
rows_of x role trail None = 0
rows_of x role trail (Some k) = rows_shown role (found_there x trail k)

-- where the places below the place at i stand, but for what leaves show
abbrev pub shown_there : Readings → ℕ → Place → Trail → Answer Trail
shown_there x i p trail = shown_of x (role_or (slice_get x.roles i)) trail (step_or (slice_get x.steps i))

-- how many rows it shows
abbrev pub rows_there : Readings → ℕ → Place → Trail → ℕ
rows_there x i p trail = rows_of x (role_or (slice_get x.roles i)) trail (step_or (slice_get x.steps i))

-- how many rows a place at i shows that is so, with those of the places below it, which come after it
abbrev pub visited_by : Readings → List Place → ℕ → Role → Option ℕ → Trail → ℕ
visited_by x after i role step trail =
    rows_of x role trail step + answer_counted (shown_there x) (rows_there x) after i (shown_of x role trail step)

-- what is read of an entry
abbrev pub readings_for : Planned → List FetchedParts → List Role → Readings
readings_for p fetched roles = record {
  ways = ways_of p.plan.steps;
  fetched = fetched;
  roles = roles;
  steps = steps_of p.plan.out p.tree.places;
}

-- how many rows the places under a root show
abbrev pub visited_for : Planned → List FetchedParts → List Role → Root → ℕ
visited_for p fetched roles r =
    let x = readings_for p fetched roles in
    counted (shown_there x) (rows_there x) p.tree.places 0 (root_place r) []
