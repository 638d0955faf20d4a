-- What is noted, what slots there are and whose rows are shown, over the lists that the code goes through.
use Rattle.std.specs.Prelude.{◌≡◌, ℕ, ◌<◌, Bool, true, false, if◌then◌else◌, List, [], ◌∷◌, length, get_or, set, Option, Some, None, map, filter_map, flat_map}
use Rattle.std.specs.Str.{bytes_eq}
use Rattle.pg_base.specs.Schema.{SchemaParts}
use Rattle.pg_base.specs.declared.schema.ArgDef.{ArgDef}
use Rattle.pg_base.specs.declared.value.Member.{Member}
use Rattle.pg_base.specs.declared.vars.Vars.{Vars}
use Rattle.gql_input.specs.declared.argument.ArgMember.{ArgMember}
use Rattle.gql_input.specs.declared.argument.ArgValue.{ArgValue}
use Rattle.place_tree.specs.Exec.{needs_rows, shows_rows}
use Rattle.place_tree.specs.Fields.{does_of}
use Rattle.place_tree.specs.declared.place.Place.{Place}
use Rattle.plan_constraints.specs.Noted.{vars_in, whole_of, shape_of, field_shape}
use Rattle.plan_constraints.specs.Path.{to_variable}
use Rattle.plan_constraints.specs.declared.constraint.Constraint.{Constraint}
use Rattle.plan_constraints.specs.declared.constraint.Constraint.TheVariants as constraint
use Rattle.plan_steps.specs.declared.plan.SlotEqual.{SlotEqual}
use Rattle.step_plan.specs.Drafted.{Making, making}
use Rattle.step_plan.specs.Slots.{member_slot}
use Rattle.step_plan.specs.declared.making.Making.{Making as Growing}
use Rattle.step_plan.specs.declared.variables.How.{How}
use Rattle.step_plan.specs.declared.variables.How.TheVariants as how

-- what is noted of a variable
abbrev pub noted_as : How → Vars → List ℕ → Constraint
noted_as how.Whole vars name = whole_of vars name
noted_as how.Shape vars name = shape_of vars name

-- the variables in several arguments, and in the fields of an object
abbrev pub vars_in_items : List ArgValue → List (List ℕ)
vars_in_items items = flat_map vars_in items

abbrev pub vars_in_members : List ArgMember → List (List ℕ)
vars_in_members members = flat_map (λ m. vars_in m.value) members

-- the keys of an object with these fields, and the shape of each
abbrev pub noted_members : Vars → List ℕ → List Member → List Constraint
noted_members vars name members =
    constraint.Keys (to_variable name) (map (λ m. m.name) members)
    ∷ map (field_shape vars name) (map (λ m. m.name) members)

-- the slots of the fields of an object that is a condition
abbrev pub written_slots : SchemaParts → Vars → List ArgDef → List ℕ → List ArgMember → List SlotEqual
written_slots schema vars inputs columns members =
    filter_map (λ m. member_slot schema vars inputs columns m.name m.value) members

-- what is written for a field of an object
abbrev pub written_among : List ArgMember → List ℕ → Option ArgValue
written_among [] name = None
written_among (m ∷ members) name = if bytes_eq m.name name then Some m.value else written_among members name

-- ---- whose rows are shown

abbrev pub with_mark : Option ℕ → List Bool → List Bool
with_mark None shown = shown
with_mark (Some above) shown = set shown above true

-- with the place above a place that shows rows
abbrev pub with_mark_of : SchemaParts → Place → List Bool → List Bool
with_mark_of schema p shown = if shows_rows (does_of schema p) then with_mark p.parent shown else shown

abbrev pub with_marks : SchemaParts → List Place → List Bool → List Bool
with_marks schema [] shown = shown
with_marks schema (p ∷ places) shown = with_marks schema places (with_mark_of schema p shown)

-- of each place it is told whether its rows are shown
pub record ShownAre (schema : SchemaParts) (places : List Place) (shown : List Bool) : Type 0 where
  pub each : length shown ≡ length places
  pub told : (i : ℕ) → i < length places → get_or shown i false ≡ needs_rows schema places i

-- ---- the plan in the making

abbrev pub so_far : Growing → Making
so_far m = making m.steps.items m.layers.items m.out.items m.belows.items
