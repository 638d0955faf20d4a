-- Under which mutation field steps are used.
use Rattle.std.specs.Prelude.{ℕ, Bool, false, ◌==◌, ◌&&◌, if◌then◌else◌, List, [], ◌∷◌, ◌++◌, length, Option, Some, None, slice_get, unwrap_or}
use Rattle.std.specs.List.{list_any}
use Rattle.pg_base.specs.Base.{BaseParts}
use Rattle.pg_base.specs.Schema.{SchemaParts}
use Rattle.place_tree.specs.declared.place.Place.{Place}
use Rattle.place_tree.specs.declared.place.Tree.{Tree}
use Rattle.place_tree.specs.Fields.{does_of, is_row_field}
use Rattle.place_tree.specs.Fold.{same_place}
use Rattle.place_tree.specs.Needs.{is_mutation}
use Rattle.plan_steps.specs.declared.plan.OutPlace.{OutPlace}
use Rattle.plan_steps.specs.declared.plan.Plan.{Plan}
-- under which mutation field the places lie that show a step
pub use Rattle.dedupe_steps.specs.declared.sights.Mark.{Mark}
pub use Rattle.dedupe_steps.specs.declared.sights.Mark.TheVariants.{Unshown, Within, Several}

-- ---- places

abbrev pub root_above : List (Option ℕ) → Option ℕ → Option ℕ
root_above done None = None
root_above done (Some i) = unwrap_or (slice_get done i) None

-- the mutation field at a place, or under which it stands, from those of the places before it
abbrev pub root_below : SchemaParts → List (Option ℕ) → Place → Option ℕ
root_below schema done p = if is_mutation (does_of schema p) then Some (length done) else root_above done p.parent

abbrev pub roots_from : SchemaParts → List (Option ℕ) → List Place → List (Option ℕ)
roots_from schema done [] = done
roots_from schema done (p ∷ places) = roots_from schema (done ++ root_below schema done p ∷ []) places

-- the mutation field of each place, if one
abbrev pub roots : SchemaParts → List Place → List (Option ℕ)
roots schema places = roots_from schema [] places

abbrev pub root_at : List (Option ℕ) → ℕ → Option ℕ
root_at roots i = unwrap_or (slice_get roots i) None

-- whether the tree is a mutation's
abbrev pub mutates : SchemaParts → List Place → Bool
mutates schema places = list_any (λ p. is_mutation (does_of schema p)) places

-- ---- steps

abbrev pub asks_rows : SchemaParts → Option Place → Bool
asks_rows schema None = false
asks_rows schema (Some p) = is_row_field (does_of schema p)

abbrev pub is_field_at : BaseParts → Tree → ℕ → Bool
is_field_at base tree i = asks_rows base.schema (slice_get tree.places i)

-- the first place that is a row field and shows the step
abbrev pub field_in : BaseParts → Tree → List OutPlace → ℕ → Option ℕ
field_in base tree [] k = None
field_in base tree (o ∷ out) k =
    if (o.step == k) && is_field_at base tree o.place then Some o.place else field_in base tree out k

abbrev pub field_for : BaseParts → Tree → Plan → ℕ → Option ℕ
field_for base tree plan k = field_in base tree plan.out k

abbrev pub met : Mark → Option ℕ → Mark
met Unshown root = Within root
met (Within other) root = if same_place other root then Within other else Several
met Several root = Several

abbrev pub mark_from : List (Option ℕ) → ℕ → Mark → List OutPlace → Mark
mark_from roots k mark [] = mark
mark_from roots k mark (o ∷ out) =
    mark_from roots k (if o.step == k then met mark (root_at roots o.place) else mark) out

-- of all places that show the step
abbrev pub mark_of : List (Option ℕ) → List OutPlace → ℕ → Mark
mark_of roots out k = mark_from roots k Unshown out
