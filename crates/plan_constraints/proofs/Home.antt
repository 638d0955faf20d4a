-- What is noted of variables holds of them.
use Rattle.std.proofs.Common.{◌≡◌, ℕ, List, [], ◌∷◌, ◌++◌, map, Option, Some, None, Bool, true, false, refl, sym, ap, subst}
use Rattle.std.specs.Prelude.{flat_map, is_some, IsSomeAnd, if◌then◌else◌}
use Rattle.pg_base.specs.Base.{BaseParts}
use Rattle.pg_base.specs.Lists.{Each}
use Rattle.pg_base.specs.Vars.{variable}
use Rattle.pg_base.specs.Value.{is_null, is_object}
use Rattle.pg_base.specs.declared.value.Value.{Value, Null, Int, Bool as BoolOf, Text, Case, List', Object'}
use Rattle.pg_base.specs.declared.vars.Vars.{Vars}
use Rattle.gql_input.specs.declared.argument.ArgValue.{ArgValue, Variable}
use Rattle.gql_input.specs.declared.argument.ArgValue as arg
use Rattle.place_tree.specs.declared.place.Place.{Place}
use Rattle.place_tree.specs.declared.place.Tree.{Tree}
use Rattle.place_tree.specs.Arguments as a
use Rattle.place_tree.specs.Arguments.{written}
use Rattle.place_tree.specs.Fields.{is_list}
use Rattle.plan_constraints.specs.declared.part.Part.{Part}
use Rattle.plan_constraints.specs.Path.{value_at, to_variable, to_field}
use Rattle.plan_constraints.specs.Constraints.{Meets, Hold, shape, whole, field_names}
use Rattle.plan_constraints.specs.Noted.{vars_in, whole_of, shape_of, field_shape, noted_window, noted_order, noted_fields, noted_object, noted_condition, noted_arguments, noted_where, noted_at, noted_all, noted}
use Rattle.plan_constraints.proofs.Repeats.{noted_once}

each_joined : {A : Type 0} (P : A → Type 0) (xs ys : List A) → Each P xs → Each P ys → Each P (xs ++ ys)
each_joined P [] ys h k = k
each_joined P (x ∷ xs) ys h k = (h.0, each_joined P xs ys h.1 k)

each_map : {A B : Type 0} (P : B → Type 0) (f : A → B) → ((x : A) → P (f x)) → (xs : List A) → Each P (map f xs)
each_map P f h [] = tt
each_map P f h (x ∷ xs) = (h x, each_map P f h xs)

each_flat : {A B : Type 0} (P : B → Type 0) (f : A → List B) → ((x : A) → Each P (f x)) → (xs : List A) → Each P (flat_map f xs)
each_flat P f h [] = tt
each_flat P f h (x ∷ xs) = each_joined P (f x) (flat_map f xs) (h x) (each_flat P f h xs)

some_and : (o : Option Value) (v : Value) (P : Value → Type 0) → o ≡ Some v → P v → IsSomeAnd o P
some_and o v P e p = subst (λ x. IsSomeAnd x P) (sym e) p

shape_home : (vars : Vars) (path : List Part) (o : Option Value) → value_at vars path ≡ o → Meets vars (shape path o)
shape_home vars path None e = ap is_some e
shape_home vars path (Some v) e = some_and (value_at vars path) v (λ w. is_null w ≡ is_null v) e refl

whole_home : (vars : Vars) (path : List Part) (o : Option Value) → value_at vars path ≡ o → Meets vars (whole path o)
whole_home vars path None e = ap is_some e
whole_home vars path (Some Null) e = some_and (value_at vars path) Null (λ w. is_null w ≡ true) e refl
whole_home vars path (Some (Int n)) e = e
whole_home vars path (Some (BoolOf b)) e = e
whole_home vars path (Some (Text t)) e = e
whole_home vars path (Some (Case c)) e = e
whole_home vars path (Some (List' s xs)) e = e
whole_home vars path (Some (Object' s ms)) e = e

variable_whole : (vars : Vars) (name : List ℕ) → Meets vars (whole_of vars name)
variable_whole vars name = whole_home vars (to_variable name) (variable vars name) refl

variable_shape : (vars : Vars) (name : List ℕ) → Meets vars (shape_of vars name)
variable_shape vars name = shape_home vars (to_variable name) (variable vars name) refl

field_home : (vars : Vars) (name field : List ℕ) → Meets vars (field_shape vars name field)
field_home vars name field = shape_home vars (to_field name field) (value_at vars (to_field name field)) refl

window_home : (vars : Vars) (given : Option ArgValue) → Hold (noted_window vars given) vars
window_home vars None = tt
window_home vars (Some (Variable name)) = (variable_shape vars name, tt)
window_home vars (Some arg.Null) = tt
window_home vars (Some (arg.Int n)) = tt
window_home vars (Some (arg.Bool b)) = tt
window_home vars (Some (arg.Text t)) = tt
window_home vars (Some (arg.Case c)) = tt
window_home vars (Some (arg.List' s xs)) = tt
window_home vars (Some (arg.Object' s ms)) = tt

order_home : (vars : Vars) (given : Option ArgValue) → Hold (noted_order vars given) vars
order_home vars None = tt
order_home vars (Some v) = each_map (Meets vars) (whole_of vars) (variable_whole vars) (vars_in v)

object_home : (vars : Vars) (name : List ℕ) (v : Value) (b : Bool) → is_object v ≡ b → variable vars name ≡ Some v → Hold (if b then noted_object vars name v else []) vars
object_home vars name v true o e =
    (some_and (variable vars name) v _ e (o, refl), each_map (Meets vars) (field_shape vars name) (field_home vars name) (field_names v))
object_home vars name v false o e = tt

fields_home : (vars : Vars) (name : List ℕ) (given : Option Value) → variable vars name ≡ given → Hold (noted_fields vars name given) vars
fields_home vars name None e = tt
fields_home vars name (Some v) e = object_home vars name v (is_object v) refl e

shapes_home : (vars : Vars) (names : List (List ℕ)) → Hold (map (shape_of vars) names) vars
shapes_home vars names = each_map (Meets vars) (shape_of vars) (variable_shape vars) names

condition_home : (vars : Vars) (given : Option ArgValue) → Hold (noted_condition vars given) vars
condition_home vars None = tt
condition_home vars (Some (Variable name)) = (variable_shape vars name, fields_home vars name (variable vars name) refl)
condition_home vars (Some arg.Null) = tt
condition_home vars (Some (arg.Int n)) = tt
condition_home vars (Some (arg.Bool b)) = tt
condition_home vars (Some (arg.Text t)) = tt
condition_home vars (Some (arg.Case c)) = tt
condition_home vars (Some (arg.List' s xs)) = shapes_home vars (vars_in (arg.List' s xs))
condition_home vars (Some (arg.Object' s ms)) = shapes_home vars (vars_in (arg.Object' s ms))

arguments_home : (vars : Vars) (p : Place) → Hold (noted_arguments vars p) vars
arguments_home vars p =
    let M = Meets vars in
    each_joined M _ _ (window_home vars (written p.args a.first)) (each_joined M _ _ (window_home vars (written p.args a.last))
    (each_joined M _ _ (window_home vars (written p.args a.offset)) (each_joined M _ _ (window_home vars (written p.args a.before))
    (each_joined M _ _ (window_home vars (written p.args a.after)) (each_joined M _ _ (order_home vars (written p.args a.order_by))
    (condition_home vars (written p.args a.condition)))))))

where_home : (vars : Vars) (p : Place) (b : Bool) → Hold (noted_where b vars p) vars
where_home vars p true = arguments_home vars p
where_home vars p false = tt

at_home : (base : BaseParts) (vars : Vars) (p : Place) → Hold (noted_at base vars p) vars
at_home base vars p = where_home vars p (is_list base p)

all_home : (base : BaseParts) (vars : Vars) (tree : Tree) → Hold (noted_all base vars tree) vars
all_home base vars tree =
    each_joined (Meets vars) (map (whole_of vars) tree.asked) _ (each_map (Meets vars) (whole_of vars) (variable_whole vars) tree.asked)
    (each_flat (Meets vars) (noted_at base vars) (at_home base vars) tree.places)

pub noted_home : (base : BaseParts) (vars : Vars) (tree : Tree) → Hold (noted base vars tree) vars
noted_home base vars tree = noted_once base vars vars tree (all_home base vars tree)
