-- Whether an order holds a null, as far as constraints tell.
use Rattle.std.specs.Prelude.{ℕ, Bool, true, false, ◌&&◌, ◌||◌, not, List, [], ◌∷◌, Option, Some, None, option_map}
use Rattle.pg_base.specs.Value.{is_null}
use Rattle.pg_base.specs.declared.value.Value.{Value}
use Rattle.pg_base.specs.declared.value.Value.TheVariants as value
use Rattle.gql_input.specs.declared.argument.ArgValue.{ArgValue, Variable, Null, Int, Bool as BoolOf, Text, Case, List', Object'}
use Rattle.gql_input.specs.declared.argument.ArgValue.{Row_of-ArgValue, end_of-ArgValue, more_of-ArgValue}
use Rattle.place_tree.specs.declared.place.Place.{Place}
use Rattle.place_tree.specs.Arguments.{written, order_by}
use Rattle.plan_constraints.specs.declared.constraint.Constraint.{Constraint}
use Rattle.plan_constraints.specs.declared.constraint.Constraint.TheVariants as constraint
use Rattle.plan_constraints.specs.Path.{to_variable}
use Rattle.plan_constraints.specs.Same.{same_path}
use Rattle.plan_steps.specs.Fetches.{holds_null}

abbrev pub told_if : Bool → Option Value → Option (Option Value)
told_if true given = Some given
told_if false given = None

-- what a constraint tells of a variable: nothing, or that it is absent, or what it is
abbrev pub told_by : List ℕ → Constraint → Option (Option Value)
told_by name (constraint.Value path v) = told_if (same_path path (to_variable name)) (Some v)
told_by name (constraint.Exists path present) = told_if (same_path path (to_variable name) && not present) None
told_by name (constraint.Null path null) = told_if (same_path path (to_variable name) && null) (Some value.Null)
told_by name (constraint.Keys path names) = None

abbrev pub or_else : {A : Type 0} → Option A → Option A → Option A
or_else None other = other
or_else (Some a) other = Some a

-- what the first tells that tells something
abbrev pub told : List Constraint → List ℕ → Option (Option Value)
told [] name = None
told (c ∷ constraints) name = or_else (told_by name c) (told constraints name)

-- an item that isn't given is null
abbrev pub is_nothing : Option Value → Bool
is_nothing None = true
is_nothing (Some v) = is_null v

-- whether an item of a list is null, where that is told
abbrev pub null_item : List Constraint → ArgValue → Option Bool
null_item constraints (Variable name) = option_map is_nothing (told constraints name)
null_item constraints Null = Some true
null_item constraints (Int n) = Some false
null_item constraints (BoolOf b) = Some false
null_item constraints (Text t) = Some false
null_item constraints (Case c) = Some false
null_item constraints (List' _ items) = Some false
null_item constraints (Object' _ members) = Some false

-- whether one of the two holds, where both are told
abbrev pub either_of : Option Bool → Option Bool → Option Bool
either_of None b = None
either_of (Some a) None = None
either_of (Some a) (Some b) = Some (a || b)

abbrev pub null_items : {n : _} → List Constraint → Row_of-ArgValue n → Option Bool
null_items constraints end_of-ArgValue = Some false
null_items constraints (more_of-ArgValue a rest) = either_of (null_item constraints a) (null_items constraints rest)

-- whether an order holds a null, where that is told: it is written out, or the constraints tell its variables
abbrev pub null_in : List Constraint → ArgValue → Option Bool
null_in constraints (Variable name) = option_map holds_null (told constraints name)
null_in constraints Null = Some false
null_in constraints (Int n) = Some false
null_in constraints (BoolOf b) = Some false
null_in constraints (Text t) = Some false
null_in constraints (Case c) = Some false
null_in constraints (List' _ items) = null_items constraints items
null_in constraints (Object' _ members) = Some false

pub data OrderTold : Type 0 where
  Told : Bool → OrderTold
  Written : ArgValue → OrderTold

abbrev pub told_or : Option Bool → ArgValue → OrderTold
told_or None a = Written a
told_or (Some b) a = Told b

abbrev pub order_of : List Constraint → Option ArgValue → OrderTold
order_of constraints None = Told false
order_of constraints (Some a) = told_or (null_in constraints a) a

-- whether the order of a place holds a null, and else how it is written
abbrev pub order_told : List Constraint → Place → OrderTold
order_told constraints p = order_of constraints (written p.args order_by)
