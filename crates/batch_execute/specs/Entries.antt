-- Which statements are sent for a plan, one after the other, and what they find.
use Rattle.std.specs.Prelude.{ℕ, ◌+◌, Bool, true, false, ◌&&◌, not, List, [], ◌∷◌, ◌++◌, Option, Some, None, slice_get}
use Rattle.rel_model.specs.declared.tables.Row.{Row}
use Rattle.rel_model.specs.declared.window.By.{By}
use Rattle.rel_model.specs.Ordered.{ascending}
use Rattle.rel_model.specs.Tables.{cells_at}
use Rattle.place_tree.specs.declared.place.Tree.{Tree}
use Rattle.plan_steps.specs.declared.plan.FetchStep.{FetchStep, out-FetchStep}
use Rattle.plan_steps.specs.declared.plan.Plan.{Plan}
use Rattle.plan_steps.specs.declared.plan.Root.{Root}
use Rattle.plan_steps.specs.declared.plan.Step.{Step}
use Rattle.plan_steps.specs.Built.{built}
use Rattle.plan_steps.specs.Filled.{filled_key, stmt_of}
use Rattle.plan_steps.specs.Named.{fetch_at}
use Rattle.plan_steps.specs.Sent.{is_none, may_ask, one_if, places_from, total}
use Rattle.plan_steps.specs.Under.{is_used}
use Rattle.plan_steps.specs.Values.{Moment}
use Rattle.stmt_tree.specs.declared.found.Key.{Key}
use Rattle.stmt_tree.specs.Meaning.{meaning_of, trees_in_all}
use Rattle.batch_execute.specs.Fetched.{FetchedParts}
use Rattle.batch_execute.specs.declared.way.Way.{Way}
use Rattle.batch_execute.specs.declared.way.Way.TheVariants.{Other, Once, Sent, Read}
use Rattle.batch_execute.specs.Held.{held}
use Rattle.batch_execute.specs.Keys.{key_of, keys_for}
use Rattle.batch_execute.specs.Reading.{Setting, row_by, unasked}
use Rattle.batch_execute.specs.Ways.{way_of}

abbrev pub setting_of : Moment → Setting
setting_of m = record { base = m.base; vars = m.vars; given = m.given }

-- ---- keys

-- the key that the row of a mutation has
abbrev pub given_keys : List ℕ → Option Row → List Key
given_keys columns None = []
given_keys columns (Some row) = key_of (cells_at columns row.cells) ∷ []

-- the one key in a fetch's slots, or that of the row of a mutation
abbrev pub once_keys : Setting → List Step → FetchStep → Option ℕ → List Key
once_keys z steps f None =
    key_of (filled_key z.base z.vars (out-FetchStep f).table (out-FetchStep f).by (out-FetchStep f).key) ∷ []
once_keys z steps f (Some p) = given_keys (out-FetchStep f).parent_columns (row_by z.given [] (slice_get steps p))

abbrev pub keys_by : Setting → List Step → List FetchedParts → FetchStep → Way → List Key
keys_by z steps fetched f Other = []
keys_by z steps fetched f Once = once_keys z steps f (out-FetchStep f).parent
keys_by z steps fetched f (Sent above) = keys_for (out-FetchStep f).parent_columns (held steps fetched above)
keys_by z steps fetched f (Read above child) = []

-- those of the fetch at k
abbrev pub keys_at : Moment → List Step → List FetchedParts → ℕ → Option FetchStep → List Key
keys_at m steps fetched k None = []
keys_at m steps fetched k (Some f) = keys_by (setting_of m) steps fetched f (way_of steps k)

-- the order of the keys
abbrev pub order_by : FetchStep → Way → List By
order_by f Other = []
order_by f Once = []
order_by f (Sent above) = ascending (out-FetchStep f).parent_columns
order_by f (Read above child) = []

-- ---- which statements are sent

-- a statement that is sent for the rows of another fetch needs one
abbrev pub is_due : Way → List Key → Bool
is_due Other keys = false
is_due Once keys = true
is_due (Sent above) keys = not (is_none keys)
is_due (Read above child) keys = false

-- the step is used under the root, and not for fields with errors alone
abbrev pub may_send : Moment → Tree → Plan → Root → ℕ → Bool
may_send m tree plan r k = is_used tree plan r k && may_ask m tree r plan.out k

-- a statement is sent for the step at k, where it has these keys
abbrev pub is_sent_with : Moment → Tree → Plan → Root → ℕ → List Key → Bool
is_sent_with m tree plan r k keys = may_send m tree plan r k && is_due (way_of plan.steps k) keys

abbrev pub is_sent_now : Moment → Tree → Plan → Root → List FetchedParts → ℕ → Bool
is_sent_now m tree plan r fetched k =
    is_sent_with m tree plan r k (keys_at m plan.steps fetched k (fetch_at plan.steps k))

-- ---- what they find

abbrev pub answered : Moment → FetchStep → List By → List Key → FetchedParts
answered m f order keys =
    record { order = order; keys = keys; found = meaning_of m.tables (stmt_of m.base m.vars f) keys }

abbrev pub answered_by : Moment → Way → List Key → Option FetchStep → FetchedParts
answered_by m way keys None = unasked
answered_by m way keys (Some f) = answered m f (order_by f way) keys

abbrev pub answered_if : Bool → Moment → Way → List Key → Option FetchStep → FetchedParts
answered_if false m way keys f = unasked
answered_if true m way keys f = answered_by m way keys f

-- what is found for the step at k, where it has these keys
abbrev pub fetched_with : Moment → Tree → Plan → Root → ℕ → List Key → FetchedParts
fetched_with m tree plan r k keys =
    answered_if (is_sent_with m tree plan r k keys) m (way_of plan.steps k) keys (fetch_at plan.steps k)

-- for the fetch of a step that may be sent
abbrev pub answered_due : Moment → List Step → List FetchedParts → ℕ → FetchStep → FetchedParts
answered_due m steps fetched k f =
    let keys = keys_by (setting_of m) steps fetched f (way_of steps k) in
    answered_if (is_due (way_of steps k) keys) m (way_of steps k) keys (Some f)

-- what is found for the step at k, from what was found for those before it
abbrev pub fetched_next : Moment → Tree → Plan → Root → List FetchedParts → ℕ → FetchedParts
fetched_next m tree plan r fetched k =
    fetched_with m tree plan r k (keys_at m plan.steps fetched k (fetch_at plan.steps k))

-- what is found for all steps
abbrev pub fetched_all : Moment → Tree → Plan → Root → List FetchedParts
fetched_all m tree plan r = built (fetched_next m tree plan r) [] (places_from 0 plan.steps)

-- how many statements are sent for the steps that are left
abbrev pub sent_from : Moment → Tree → Plan → Root → List FetchedParts → List ℕ → ℕ
sent_from m tree plan r fetched [] = 0
sent_from m tree plan r fetched (k ∷ steps) =
    one_if (is_sent_now m tree plan r fetched k)
    + sent_from m tree plan r (fetched ++ fetched_next m tree plan r fetched k ∷ []) steps

-- how many rows were found
abbrev pub trees_found : List FetchedParts → ℕ
trees_found fetched = total (λ (x : FetchedParts). trees_in_all x.found) fetched
