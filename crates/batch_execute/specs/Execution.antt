-- What the run of a plan gives.
use Rattle.std.specs.Prelude.{◌≡◌, ℕ, ◌+◌, ◌^◌, ◌<◌, ◌≤◌, List, [], Result, Ok, Err, ⊤}
use Rattle.pg_base.specs.declared.vars.Vars.{Vars}
use Rattle.rel_model.specs.declared.tables.Tables.{Tables}
use Rattle.place_tree.specs.declared.place.Tree.{Tree}
use Rattle.plan_steps.specs.declared.plan.Plan.{Plan}
use Rattle.plan_steps.specs.declared.plan.Root.{Root}
use Rattle.plan_steps.specs.Denoted.{moment}
use Rattle.plan_steps.specs.Sent.{asked_count, places_from}
use Rattle.plan_steps.specs.Sound.{executed_for, visited_for}
use Rattle.plan_steps.specs.Values.{Moment}
use Rattle.plan_steps.specs.View.{Planned}
use Rattle.stmt_tree.specs.Meaning.{trees_in_all}
use Rattle.batch_execute.specs.declared.fault.ExecFault.{ExecFault}
use Rattle.batch_execute.specs.declared.role.Role.{Role}
use Rattle.batch_execute.specs.declared.fault.ExecFault.TheVariants.{Store, TooManyRows, Memory}
use Rattle.batch_execute.specs.Entries.{fetched_all, sent_from, trees_found}
use Rattle.batch_execute.specs.Fetched.{FetchedParts}
use Rattle.batch_execute.specs.Reading.{setting, shown_for}
use Rattle.batch_execute.specs.Values.{ValuesParts}

abbrev pub IsStoreFault : {A : Type 0} → Result A ExecFault → Type 0
IsStoreFault (Ok x) = ⊥
IsStoreFault (Err Store) = Unit {0}
IsStoreFault (Err TooManyRows) = ⊥
IsStoreFault (Err Memory) = ⊥

-- a count rises by so much, as far as 64 bits hold it
abbrev pub Counts : ℕ → ℕ → ℕ → Type 0
Counts before now n = before + n < 2 ^ 64 → now ≡ before + n

-- What is due was found, and taken from what was left; or more than that is due. Both yield to a fault of the store.
abbrev pub Gives : ℕ → ℕ → FetchedParts → Result FetchedParts ExecFault → Type 0
Gives before now due (Ok x) = (x ≡ due) × (now + trees_in_all due.found ≡ before)
Gives before now due (Err Store) = ⊤
Gives before now due (Err TooManyRows) = before < trees_in_all due.found
Gives before now due (Err Memory) = ⊤

-- the rows that were got are no more than those that were found, and none at a fault
abbrev pub Gets : ℕ → ℕ → Result FetchedParts ExecFault → Type 0
Gets before now (Ok x) = (before ≤ now) × (now ≤ before + trees_in_all x.found)
Gets before now (Err fault) = now ≡ before

-- the same at a batch that is there
abbrev pub Keeps : ℕ → ℕ → FetchedParts → Result FetchedParts ExecFault → Type 0
Keeps before now due (Ok x) = (x ≡ due) × (now + trees_in_all due.found ≡ before)
Keeps before now due (Err Store) = ⊥
Keeps before now due (Err TooManyRows) = before < trees_in_all due.found
Keeps before now due (Err Memory) = ⊥

-- ---- all statements of a plan

-- the count of statements rises by one for each that is sent
abbrev pub SendsAll : Moment → Tree → Plan → Root → ℕ → ℕ → Type 0
SendsAll m tree plan r before now = Counts before now (sent_from m tree plan r [] (places_from 0 plan.steps))

-- all of it was found, and taken from what was left; or there is more than that
abbrev pub GivesAll : Moment → Tree → Plan → Root → ℕ → ℕ → Result (List FetchedParts) ExecFault → Type 0
GivesAll m tree plan r before now (Ok fetched) =
    (fetched ≡ fetched_all m tree plan r) × (now + trees_found fetched ≡ before)
GivesAll m tree plan r before now (Err Store) = ⊤
GivesAll m tree plan r before now (Err TooManyRows) = before < trees_found (fetched_all m tree plan r)
GivesAll m tree plan r before now (Err Memory) = ⊤

-- no more rows were got than are found, nor than there was room for
pub record GetsFor (m : Moment) (tree : Tree) (plan : Plan) (r : Root) (room before now : ℕ) : Type 0 where
  pub rises : before ≤ now
  pub room_ : now ≤ before + room
  pub found : now ≤ before + trees_found (fetched_all m tree plan r)

-- ---- values

-- the values show what execution gives, and count the rows that it visits
pub record AreValues (p : Planned) (tables : Tables) (vars : Vars) (r : Root) (room : ℕ) (v : ValuesParts)
    : Type 0 where
  pub data_ : shown_for (setting p.base vars r) v.fetched p.plan p.tree r ≡ executed_for p.base tables vars p.tree r
  pub visited : v.visited ≡ visited_for p.base tables vars p.tree r
  pub within : v.visited ≤ room

-- the answer over tables that are told: more rows are visited than there is room for; it yields to a fault of the store
abbrev pub Answers : Planned → Tables → Vars → Root → ℕ → Result ValuesParts ExecFault → Type 0
Answers p tables vars r room (Ok v) = AreValues p tables vars r room v
Answers p tables vars r room (Err Store) = ⊤
Answers p tables vars r room (Err TooManyRows) = room < visited_for p.base tables vars p.tree r
Answers p tables vars r room (Err Memory) = ⊤

-- one statement for each asked step
abbrev pub SendsAsked : Planned → Tables → Vars → Root → ℕ → ℕ → Type 0
SendsAsked p tables vars r before now = Counts before now (asked_count (moment p.base tables vars r) p.tree p.plan r)

-- no more rows are got than are visited, nor than there is room for
pub record GetsWithin (p : Planned) (tables : Tables) (vars : Vars) (r : Root) (room before now : ℕ) : Type 0 where
  pub rises : before ≤ now
  pub room_ : now ≤ before + room
  pub visited : now ≤ before + visited_for p.base tables vars p.tree r

-- the values of what was found, with the number of rows that are shown; or these are more than there is room for
abbrev pub Finishes : ℕ → ℕ → List FetchedParts → List Role → Result ValuesParts ExecFault → Type 0
Finishes room visited fetched roles (Ok v) =
    (v ≡ record { fetched = fetched; roles = roles; visited = visited }) × (visited ≤ room)
Finishes room visited fetched roles (Err Store) = ⊥
Finishes room visited fetched roles (Err TooManyRows) = room < visited
Finishes room visited fetched roles (Err Memory) = ⊤
