-- Which steps are sent, under which root they are asked, and what they find.
use Rattle.std.specs.Prelude.{ℕ, ◌+◌, Bool, true, false, ◌==◌, ◌&&◌, ◌||◌, not, if◌then◌else◌, List, [], ◌∷◌, ◌++◌, map, Option, Some, None, slice_get, unwrap_or, is_some}
use Rattle.std.specs.List.{list_any}
use Rattle.pg_base.specs.declared.cell.Cell.{Cell}
use Rattle.rel_model.specs.declared.tables.Row.{Row}
use Rattle.place_tree.specs.declared.place.Place.{Place}
use Rattle.place_tree.specs.declared.place.Tree.{Tree}
use Rattle.place_tree.specs.declared.fetch.Fetch.{Fetch}
use Rattle.place_tree.specs.Fetch.{fetch_of, argument_error}
use Rattle.stmt_tree.specs.Meaning.{found_for, trees_in}
use Rattle.plan_steps.specs.declared.plan.FetchStep.{FetchStep, out-FetchStep}
use Rattle.plan_steps.specs.declared.plan.Step.{Step}
use Rattle.plan_steps.specs.declared.plan.OutPlace.{OutPlace}
use Rattle.plan_steps.specs.declared.plan.Plan.{Plan}
use Rattle.plan_steps.specs.declared.plan.Root.{Root}
use Rattle.plan_steps.specs.Built.{built}
use Rattle.plan_steps.specs.Denoted.{onto}
use Rattle.plan_steps.specs.Filled.{stmt_of}
use Rattle.plan_steps.specs.Named.{fetch_at, item_at, is_fetch, over}
use Rattle.plan_steps.specs.Same.{same_fetch}
use Rattle.plan_steps.specs.Under.{is_under, is_used}
use Rattle.plan_steps.specs.Values.{Moment, Path, listing_in, key_at, val_at, all_vals}

-- ---- fetches that are read from the rows of another one

abbrev pub children_of : Option FetchStep → List FetchStep
children_of None = []
children_of (Some g) = (out-FetchStep g).children

abbrev pub children_at : List Step → Option ℕ → List FetchStep
children_at steps None = []
children_at steps (Some s) = children_of (fetch_at steps s)

-- the fetches among which that of a step with this parent can stand: the children of the fetch whose Item the parent is
abbrev pub children_above : List Step → Option ℕ → List FetchStep
children_above steps None = []
children_above steps (Some p) = children_at steps (item_at steps p)

abbrev pub is_read_by : List Step → Option FetchStep → Bool
is_read_by steps None = false
is_read_by steps (Some f) = list_any (same_fetch f) (children_above steps (out-FetchStep f).parent)

-- its fetch stands among the children of the fetch whose row it hangs on
abbrev pub is_read : List Step → ℕ → Bool
is_read steps k = is_read_by steps (fetch_at steps k)

-- a fetch that is a statement of its own
abbrev pub is_sent : List Step → ℕ → Bool
is_sent steps k = is_fetch steps k && not (is_read steps k)

-- a sent step that places under the root use
abbrev pub is_sent_for : Tree → Plan → Root → ℕ → Bool
is_sent_for tree plan r k = is_sent plan.steps k && is_used tree plan r k

-- ---- where layers stand

abbrev pub is_row_field : Option Fetch → Bool
is_row_field None = false
is_row_field (Some f) = true

-- the entry is a row field's under the root, and shows the step
abbrev pub serves : Moment → Tree → Root → ℕ → OutPlace → Option Place → Bool
serves m tree r k o None = false
serves m tree r k o (Some p) =
    (o.step == k) && (is_under tree r o.place && is_row_field (fetch_of m.base m.vars p))

abbrev pub has_no_error : Moment → Option Place → Bool
has_no_error m None = false
has_no_error m (Some p) = not (is_some (argument_error m.base m.vars p))

-- a step serves some row field, and one that has no error
abbrev pub serves_some : Moment → Tree → Root → List OutPlace → ℕ → Bool
serves_some m tree r out k = list_any (λ o. serves m tree r k o (slice_get tree.places o.place)) out

abbrev pub serves_well : Moment → Tree → Root → List OutPlace → ℕ → Bool
serves_well m tree r out k =
    list_any (λ o. serves m tree r k o (slice_get tree.places o.place)
    && has_no_error m (slice_get tree.places o.place)) out

abbrev pub may_ask : Moment → Tree → Root → List OutPlace → ℕ → Bool
may_ask m tree r out k = not (serves_some m tree r out k) || serves_well m tree r out k

abbrev pub is_none : {A : Type 0} → List A → Bool
is_none [] = true
is_none (x ∷ xs) = false

-- the paths one step further: one for each row of the step at each path
abbrev pub extended : (Path → List Row) → ℕ → List Path → List Path
extended rows s [] = []
extended rows s (path ∷ paths) = map (onto s path) (rows path) ++ extended rows s paths

-- the rows of a fetch at a path
abbrev pub rows_at : Moment → List Step → ℕ → Path → List Row
rows_at m steps s path = (listing_in (val_at (all_vals m steps path) s)).rows

-- where the layer of a step stands, and whether the step is asked there
pub record Stance : Type 0 where
  pub paths : List Path
  pub asked : Bool

abbrev pub nowhere : Stance
nowhere = record { paths = []; asked = false }

abbrev pub stance_in : List Stance → ℕ → Stance
stance_in stances k = unwrap_or (slice_get stances k) nowhere

-- a layer over nothing stands once; one over a sent step that isn't asked stands nowhere
abbrev pub paths_over : Moment → List Step → List Stance → Option ℕ → List Path
paths_over m steps earlier None = [] ∷ []
paths_over m steps earlier (Some s) =
    if is_sent steps s && not (stance_in earlier s).asked then []
    else extended (rows_at m steps s) s (stance_in earlier s).paths

-- A step is asked where it is sent for the root, its layer stands at least once, and under the root it serves no row
-- field or one without an error.
abbrev pub stance_next : Moment → Tree → Plan → Root → List Stance → ℕ → Stance
stance_next m tree plan r earlier k =
    let paths = paths_over m plan.steps earlier (over plan.layers k) in
    record { paths = paths; asked = is_sent_for tree plan r k && (not (is_none paths) && may_ask m tree r plan.out k) }

-- the places of a list, which count from a number on
abbrev pub places_from : {A : Type 0} → ℕ → List A → List ℕ
places_from k [] = []
places_from k (x ∷ xs) = k ∷ places_from (k + 1) xs

-- those of all steps
abbrev pub stances : Moment → Tree → Plan → Root → List Stance
stances m tree plan r = built (stance_next m tree plan r) [] (places_from 0 plan.steps)

abbrev pub is_asked : Moment → Tree → Plan → Root → ℕ → Bool
is_asked m tree plan r k = (stance_in (stances m tree plan r) k).asked

abbrev pub total : {A : Type 0} → (A → ℕ) → List A → ℕ
total f [] = 0
total f (x ∷ xs) = f x + total f xs

abbrev pub one_if : Bool → ℕ
one_if true = 1
one_if false = 0

-- how many steps are asked
abbrev pub asked_count : Moment → Tree → Plan → Root → ℕ
asked_count m tree plan r = total (λ k. one_if (is_asked m tree plan r k)) (places_from 0 plan.steps)

-- ---- what they find

-- the row trees that a fetch finds at a path
abbrev pub trees_for : Moment → FetchStep → Option (List Cell) → ℕ
trees_for m f None = 0
trees_for m f (Some key) = trees_in (found_for m.tables (stmt_of m.base m.vars f) key)

abbrev pub trees_by : Moment → List Step → Path → Option FetchStep → ℕ
trees_by m steps path None = 0
trees_by m steps path (Some f) = trees_for m f (key_at m f (all_vals m steps path))

abbrev pub trees_at : Moment → List Step → ℕ → Path → ℕ
trees_at m steps k path = trees_by m steps path (fetch_at steps k)

-- those of a step that is asked, at all paths of its layer
abbrev pub trees_if : Bool → (Path → ℕ) → List Path → ℕ
trees_if true trees paths = total trees paths
trees_if false trees paths = 0

abbrev pub rows_by : Moment → List Step → List Stance → ℕ → ℕ
rows_by m steps all k = trees_if (stance_in all k).asked (trees_at m steps k) (stance_in all k).paths

-- the rows that the asked steps find
abbrev pub rows_found : Moment → Tree → Plan → Root → ℕ
rows_found m tree plan r = total (rows_by m plan.steps (stances m tree plan r)) (places_from 0 plan.steps)

-- the number of sent steps that the root uses
abbrev pub sent_count : Tree → Plan → Root → ℕ
sent_count tree plan r = total (λ k. one_if (is_sent_for tree plan r k)) (places_from 0 plan.steps)
