-- What stands below the root of a plan.
use Rattle.std.specs.Prelude.{ℕ, Bool, true, ◌&&◌, List, length, Option, Some, None, slice_get}
use Rattle.std.specs.List.{list_any}
use Rattle.pg_base.specs.Schema.{SchemaParts}
use Rattle.pg_base.specs.declared.does.Does.{Does}
use Rattle.pg_base.specs.declared.does.Does.TheVariants as does
use Rattle.place_tree.specs.declared.place.Place.{Place}
use Rattle.place_tree.specs.declared.place.Tree.{Tree}
use Rattle.place_tree.specs.Fields.{does_of}
use Rattle.plan_steps.specs.declared.plan.Plan.{Plan}
use Rattle.plan_steps.specs.declared.plan.Root.{Root}
use Rattle.plan_steps.specs.declared.plan.Root.TheVariants as root
use Rattle.plan_steps.specs.Chains.{chain, or_nothing, is_in}
use Rattle.plan_steps.specs.Named.{used_by}

abbrev pub parent_in : Option Place → Option ℕ
parent_in None = None
parent_in (Some p) = p.parent

-- the place above a place
abbrev pub above : List Place → ℕ → Option ℕ
above places i = parent_in (slice_get places i)

-- the places above a place, the nearest first
abbrev pub places_above : List Place → ℕ → List ℕ
places_above places i = or_nothing (chain (above places) (length places)) (above places i)

-- whether a place stands below the place of a root; below that of a query each does
abbrev pub is_below : List Place → Option ℕ → ℕ → Bool
is_below places None i = true
is_below places (Some place) i = is_in (places_above places i) place

abbrev pub root_place : Root → Option ℕ
root_place root.Query = None
root_place (root.Field place row) = Some place

abbrev pub is_under : Tree → Root → ℕ → Bool
is_under tree r i = is_below tree.places (root_place r) i

-- whether a place under the root uses the step
abbrev pub is_used : Tree → Plan → Root → ℕ → Bool
is_used tree plan r k = list_any (λ o. is_under tree r o.place && is_in (used_by plan.steps o.step) k) plan.out

-- ---- mutations

-- the table whose row a mutation field gives
abbrev pub mutated : Option Does → Option ℕ
mutated (Some (does.Create table)) = Some table
mutated (Some (does.Update table key)) = Some table
mutated (Some (does.Delete table key)) = Some table
mutated _ = None

abbrev pub mutated_in : SchemaParts → Option Place → Option ℕ
mutated_in schema None = None
mutated_in schema (Some p) = mutated (does_of schema p)

-- the same of the field at a place
abbrev pub mutated_at : SchemaParts → List Place → ℕ → Option ℕ
mutated_at schema places i = mutated_in schema (slice_get places i)
