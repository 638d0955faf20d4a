-- How many rows the places show of what a plan's own fetches find.
use Rattle.std.specs.Prelude.{ℕ, ◌-◌, true, false, [], Option, Some, None, is_some}
use Rattle.pg_base.specs.Base.{BaseParts}
use Rattle.pg_base.specs.declared.vars.Vars.{Vars}
use Rattle.rel_model.specs.declared.tables.Tables.{Tables}
use Rattle.place_tree.specs.declared.place.Place.{Place}
use Rattle.place_tree.specs.declared.place.Tree.{Tree}
use Rattle.place_tree.specs.Exec.{first_row}
use Rattle.plan_steps.specs.declared.plan.Plan.{Plan}
use Rattle.plan_steps.specs.declared.plan.Root.{Root}
use Rattle.plan_steps.specs.Denoted.{denoted, moment}
use Rattle.plan_steps.specs.Named.{step_for}
use Rattle.plan_steps.specs.Sent.{one_if}
use Rattle.plan_steps.specs.Under.{root_place}
use Rattle.plan_steps.specs.Values.{Moment, Listing, Path, listing_in, val_at, all_vals}
use Rattle.batch_execute.specs.declared.role.Role.{Role}
use Rattle.batch_execute.specs.declared.role.Role.TheVariants.{Failed, OfList, OfRow, Each, Same, OfLeaf}
use Rattle.batch_execute.specs.Counted.{counted}
use Rattle.batch_execute.specs.Roles.{role_of}

abbrev pub listing_shown : Role → Listing → ℕ
listing_shown (Failed message) l = 0
listing_shown (OfList true) l = l.to - l.from
listing_shown (OfList false) l = 0
listing_shown OfRow l = one_if (is_some (first_row l.rows))
listing_shown Each l = 0
listing_shown Same l = 0
listing_shown OfLeaf l = 0

abbrev pub rows_of_step : Moment → Plan → Role → Path → Option ℕ → ℕ
rows_of_step m plan role path None = 0
rows_of_step m plan role path (Some k) = listing_shown role (listing_in (val_at (all_vals m plan.steps path) k))

-- how many rows the place at i shows of what its step finds at a path
abbrev pub denoted_rows : Moment → Plan → Tree → ℕ → Place → Path → ℕ
denoted_rows m plan tree i p path =
    rows_of_step m plan (role_of m.base m.vars tree.places i p) path (step_for plan.out i)

-- how many rows the places under a root show
abbrev pub denoted_visits : BaseParts → Tables → Vars → Plan → Tree → Root → ℕ
denoted_visits base tables vars plan tree r =
    counted (denoted (moment base tables vars r) plan) (denoted_rows (moment base tables vars r) plan tree)
    tree.places 0
    (root_place r) []
