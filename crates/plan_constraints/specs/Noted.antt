-- The constraints that are noted for a tree of places and the variables it was made with: what a plan of the tree may
-- take from the variables beside the values that fill its statements.
use Rattle.std.specs.Prelude.{ℕ, Bool, true, false, List, [], ◌∷◌, ◌++◌, map, flat_map, Option, Some, None, if◌then◌else◌}
use Rattle.pg_base.specs.Base.{BaseParts}
use Rattle.pg_base.specs.declared.value.Value.{Value}
use Rattle.pg_base.specs.declared.vars.Vars.{Vars}
use Rattle.pg_base.specs.Vars.{variable}
use Rattle.pg_base.specs.Value.{is_object}
use Rattle.gql_input.specs.declared.argument.ArgValue.{ArgValue, Variable, Null, Int, Bool as BoolOf, Text, Case, List', Object'}
use Rattle.gql_input.specs.declared.argument.ArgValue.{Row_of-ArgValue, end_of-ArgValue, more_of-ArgValue}
use Rattle.gql_input.specs.declared.argument.ArgValue.{Row_of-ArgMember, end_of-ArgMember, more_of-ArgMember}
use Rattle.place_tree.specs.declared.place.Place.{Place}
use Rattle.place_tree.specs.declared.place.Tree.{Tree}
use Rattle.place_tree.specs.Arguments.{written, first, last, offset, before, after, order_by, condition}
use Rattle.place_tree.specs.Fields.{is_list}
use Rattle.plan_constraints.specs.declared.constraint.Constraint.{Constraint}
use Rattle.plan_constraints.specs.declared.constraint.Constraint.TheVariants as constraint
use Rattle.plan_constraints.specs.Path.{value_at, to_variable, to_field}
use Rattle.plan_constraints.specs.Constraints.{shape, whole, field_names}
use Rattle.plan_constraints.specs.Same.{with_constraints}

-- the variables in an argument, in their order
abbrev mutual
  pub vars_in : ArgValue → List (List ℕ)
  vars_in (Variable name) = name ∷ []
  vars_in Null = []
  vars_in (Int n) = []
  vars_in (BoolOf b) = []
  vars_in (Text t) = []
  vars_in (Case c) = []
  vars_in (List' _ items) = item_vars items
  vars_in (Object' _ members) = member_vars members

  pub item_vars : {n : _} → Row_of-ArgValue n → List (List ℕ)
  item_vars end_of-ArgValue = []
  item_vars (more_of-ArgValue a rest) = vars_in a ++ item_vars rest

  pub member_vars : {n : _} → Row_of-ArgMember n → List (List ℕ)
  member_vars end_of-ArgMember = []
  member_vars (more_of-ArgMember name a rest) = vars_in a ++ member_vars rest

abbrev pub whole_of : Vars → List ℕ → Constraint
whole_of vars name = whole (to_variable name) (variable vars name)

abbrev pub shape_of : Vars → List ℕ → Constraint
shape_of vars name = shape (to_variable name) (variable vars name)

-- the shape of a field of a variable
abbrev pub field_shape : Vars → List ℕ → List ℕ → Constraint
field_shape vars name field = shape (to_field name field) (value_at vars (to_field name field))

-- where an argument is a variable, what is noted of that, and else what is noted of what is written
abbrev pub by_variable : {A : Type 0} → (List ℕ → A) → (ArgValue → A) → ArgValue → A
by_variable of_variable of_value (Variable name) = of_variable name
by_variable of_variable of_value Null = of_value Null
by_variable of_variable of_value (Int n) = of_value (Int n)
by_variable of_variable of_value (BoolOf b) = of_value (BoolOf b)
by_variable of_variable of_value (Text t) = of_value (Text t)
by_variable of_variable of_value (Case c) = of_value (Case c)
by_variable of_variable of_value (List' s items) = of_value (List' s items)
by_variable of_variable of_value (Object' s members) = of_value (Object' s members)

-- first, last, offset, before and after by a variable: its shape
abbrev pub noted_window : Vars → Option ArgValue → List Constraint
noted_window vars None = []
noted_window vars (Some a) = by_variable (λ name. shape_of vars name ∷ []) (λ a. []) a

-- an order by a variable, or by a list with variables: the whole of each
abbrev pub noted_order : Vars → Option ArgValue → List Constraint
noted_order vars None = []
noted_order vars (Some a) = map (whole_of vars) (vars_in a)

-- the keys of an object, and the shape of each of its fields
abbrev pub noted_object : Vars → List ℕ → Value → List Constraint
noted_object vars name v =
    constraint.Keys (to_variable name) (field_names v) ∷ map (field_shape vars name) (field_names v)

abbrev pub noted_fields : Vars → List ℕ → Option Value → List Constraint
noted_fields vars name None = []
noted_fields vars name (Some v) = if is_object v then noted_object vars name v else []

-- a condition by a variable: its shape, and what it has; by an object: the shape of each variable in it
abbrev pub noted_condition : Vars → Option ArgValue → List Constraint
noted_condition vars None = []
noted_condition vars (Some a) =
    by_variable (λ name. shape_of vars name ∷ noted_fields vars name (variable vars name))
    (λ a. map (shape_of vars) (vars_in a)) a

-- the arguments of a list, in their order
abbrev pub noted_arguments : Vars → Place → List Constraint
noted_arguments vars p =
    noted_window vars (written p.args first) ++ (noted_window vars (written p.args last)
    ++ (noted_window vars (written p.args offset) ++ (noted_window vars (written p.args before)
    ++ (noted_window vars (written p.args after) ++ (noted_order vars (written p.args order_by)
    ++ noted_condition vars (written p.args condition))))))

abbrev pub noted_where : Bool → Vars → Place → List Constraint
noted_where true vars p = noted_arguments vars p
noted_where false vars p = []

-- of a place: only lists have arguments of which something is noted
abbrev pub noted_at : BaseParts → Vars → Place → List Constraint
noted_at base vars p = noted_where (is_list base p) vars p

-- the whole of each variable that collection asked, and then place by place; with repeats
abbrev pub noted_all : BaseParts → Vars → Tree → List Constraint
noted_all base vars tree = map (whole_of vars) tree.asked ++ flat_map (noted_at base vars) tree.places

-- what is noted for a tree and variables: each constraint once, where it comes first
abbrev pub noted : BaseParts → Vars → Tree → List Constraint
noted base vars tree = with_constraints [] (noted_all base vars tree)
