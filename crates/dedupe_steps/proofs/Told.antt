-- Orders of which the same is told hold a null both or none.
use Rattle.std.proofs.Common.{◌≡◌, ℕ, List, [], ◌∷◌, Option, Some, None, Bool, true, false, refl, sym, ap, ◌∙◌, inl, inr, ◌⊎◌}
use Rattle.std.specs.Prelude.{◌&&◌, ◌||◌, not, unwrap_or, is_some, IsSomeAnd, option_map}
use Rattle.std.specs.Cmp.{first_so, second_so}
use Rattle.std.specs.List.{list_any}
use Rattle.std.specs.Option.{option_and_then}
use Rattle.pg_base.specs.declared.value.Value.{Value}
use Rattle.pg_base.specs.declared.value.Value as v
use Rattle.pg_base.specs.declared.value.Value.TheVariants as value
use Rattle.pg_base.specs.declared.vars.Vars.{Vars}
use Rattle.pg_base.specs.Vars.{variable}
use Rattle.pg_base.specs.Value.{is_null}
use Rattle.gql_input.specs.Arguments.{value_with, values_with}
use Rattle.gql_input.specs.declared.argument.ArgValue.{ArgValue, Variable, Null, Int, Bool as BoolOf, Text, Case, List', Object'}
use Rattle.gql_input.specs.declared.argument.ArgValue.{Row_of-ArgValue, end_of-ArgValue, more_of-ArgValue}
use Rattle.place_tree.specs.declared.place.Place.{Place}
use Rattle.place_tree.specs.Arguments.{written, order_by}
use Rattle.plan_constraints.specs.declared.constraint.Constraint.{Constraint}
use Rattle.plan_constraints.specs.declared.constraint.Constraint.TheVariants as constraint
use Rattle.plan_constraints.specs.Constraints.{Meets, Hold}
use Rattle.plan_constraints.specs.Path.{value_at, to_variable}
use Rattle.plan_constraints.specs.Same.{same_path}
use Rattle.plan_constraints.proofs.Parts.{items_of-List}
use Rattle.plan_steps.specs.Fetches.{holds_null, has_null_order}
use Rattle.plan_steps.proofs.Bools.{not_false}
use Rattle.dedupe_steps.specs.Orders.{told_if, told_by, or_else, told, is_nothing, null_item, either_of, null_items, null_in, OrderTold, Told, Written, told_or, order_of, order_told}
use Rattle.dedupe_steps.proofs.Lists.{some_one}
use Rattle.dedupe_steps.proofs.Same.{path_same}

null_is : (x : Value) → is_null x ≡ true → x ≡ value.Null
null_is v.Null h = refl
null_is (v.Int n) h = cc
null_is (v.Bool b) h = cc
null_is (v.Text t) h = cc
null_is (v.Case c) h = cc
null_is (v.List' _ items) h = cc
null_is (v.Object' _ members) h = cc

told_true : (b : Bool) (x y : Option Value) → told_if b x ≡ Some y → (b ≡ true) × (x ≡ y)
told_true true x y e = (refl, some_one x y e)
told_true false x y e = cc

none_of : (o : Option Value) → is_some o ≡ false → o ≡ None
none_of None h = refl
none_of (Some x) h = cc

null_there : (o : Option Value) (b : Bool) → b ≡ true → IsSomeAnd o (λ x. is_null x ≡ b) → o ≡ Some value.Null
null_there None b t h = absurd h
null_there (Some x) b t h = ap (λ y. Some y) (null_is x (h ∙ t))

told_one : (vars : Vars) (name : List ℕ) (c : Constraint) (given : Option Value) → Meets vars c → told_by name c ≡ Some given → variable vars name ≡ given
told_one vars name (constraint.Value path x) given h e =
    let t = told_true (same_path path (to_variable name)) (Some x) given e in
    sym (ap (value_at vars) (path_same path (to_variable name) t.0)) ∙ h ∙ t.1
told_one vars name (constraint.Exists path present) given h e =
    let t = told_true (same_path path (to_variable name) && not present) None given e in
    let same = path_same path (to_variable name) (first_so (same_path path (to_variable name)) _ t.0) in
    let absent = not_false present (second_so (same_path path (to_variable name)) _ t.0) in
    sym (ap (value_at vars) same) ∙ none_of (value_at vars path) (h ∙ absent) ∙ t.1
told_one vars name (constraint.Null path null) given h e =
    let t = told_true (same_path path (to_variable name) && null) (Some value.Null) given e in
    let same = path_same path (to_variable name) (first_so (same_path path (to_variable name)) _ t.0) in
    let yes = second_so (same_path path (to_variable name)) _ t.0 in
    sym (ap (value_at vars) same) ∙ null_there (value_at vars path) null yes h ∙ t.1
told_one vars name (constraint.Keys path names) given h e = cc

told_is : (vars : Vars) (name : List ℕ) (constraints : List Constraint) (given : Option Value) → Hold constraints vars → told constraints name ≡ Some given → variable vars name ≡ given
told_is vars name [] given h e = cc
told_is vars name (c ∷ constraints) given h e = by (told_by name c) refl (told_is vars name constraints given h.1) e where
  by : (o : Option (Option Value)) → told_by name c ≡ o → (told constraints name ≡ Some given → variable vars name ≡ given) → or_else o (told constraints name) ≡ Some given → variable vars name ≡ given
  by None g again e = again e
  by (Some x) g again e = told_one vars name c given h.0 (g ∙ e)

mapped_is : {A : Type 0} (f : Option Value → A) (o : Option (Option Value)) (b : A) → option_map f o ≡ Some b → (x : Option Value) × (o ≡ Some x) × (f x ≡ b)
mapped_is f None b e = cc
mapped_is f (Some x) b e = (x, refl, some_one (f x) b e)

nothing_is : (o : Option Value) → is_null (unwrap_or o value.Null) ≡ is_nothing o
nothing_is None = refl
nothing_is (Some x) = refl

module _ (vars : Vars) (constraints : List Constraint) (hold : Hold constraints vars) where
  item_is : (a : ArgValue) (b : Bool) → null_item constraints a ≡ Some b → is_null (unwrap_or (value_with vars a) value.Null) ≡ b
  item_is (Variable name) b e =
      let z = mapped_is is_nothing (told constraints name) b e in
      ap (λ o. is_null (unwrap_or o value.Null)) (told_is vars name constraints z.0 hold z.1) ∙ nothing_is z.0 ∙ z.2
  item_is Null b e = some_one true b e
  item_is (Int n) b e = some_one false b e
  item_is (BoolOf t) b e = some_one false b e
  item_is (Text t) b e = some_one false b e
  item_is (Case c) b e = some_one false b e
  item_is (List' _ items) b e = some_one false b e
  item_is (Object' _ members) b e = some_one false b e

  either_is : (x y : Option Bool) (b : Bool) → either_of x y ≡ Some b → (p : Bool) × (q : Bool) × (x ≡ Some p) × (y ≡ Some q) × ((p || q) ≡ b)
  either_is None y b e = cc
  either_is (Some p) None b e = cc
  either_is (Some p) (Some q) b e = (p, q, refl, refl, some_one (p || q) b e)

  items_are : {n : _} (items : Row_of-ArgValue n) (b : Bool) → null_items constraints items ≡ Some b → list_any is_null (values_with vars items) ≡ b
  items_are end_of-ArgValue b e = some_one false b e
  items_are (more_of-ArgValue a rest) b e =
      let z = either_is (null_item constraints a) (null_items constraints rest) b e in
      ap (λ x. x || list_any is_null (values_with vars rest)) (item_is a z.0 z.2) ∙ ap (λ x. z.0 || x) (items_are rest z.1 z.3) ∙ z.4

  null_is_in : (a : ArgValue) (b : Bool) → null_in constraints a ≡ Some b → holds_null (value_with vars a) ≡ b
  null_is_in (Variable name) b e =
      let z = mapped_is holds_null (told constraints name) b e in
      ap holds_null (told_is vars name constraints z.0 hold z.1) ∙ z.2
  null_is_in Null b e = some_one false b e
  null_is_in (Int n) b e = some_one false b e
  null_is_in (BoolOf t) b e = some_one false b e
  null_is_in (Text t) b e = some_one false b e
  null_is_in (Case c) b e = some_one false b e
  null_is_in (List' _ items) b e = ap (list_any is_null) (items_of-List (values_with vars items)) ∙ items_are items b e
  null_is_in (Object' _ members) b e = some_one false b e

  abbrev truth_in : OrderTold → Bool → Bool
  truth_in (Told b) d = b
  truth_in (Written a) d = d

  abbrev written_in : OrderTold → ArgValue → ArgValue
  written_in (Told b) d = d
  written_in (Written a) d = a

  -- what the order of a place holds, as it is told, or how it is written
  order_is : (w : Option ArgValue) (o : OrderTold) → order_of constraints w ≡ o → ((b : Bool) × (o ≡ Told b) × (holds_null (option_and_then (value_with vars) w) ≡ b)) ⊎ ((a : ArgValue) × (o ≡ Written a) × (w ≡ Some a))
  order_is None o e = inl (false, sym e, refl)
  order_is (Some a) o e = by (null_in constraints a) refl e where
    by : (n : Option Bool) → null_in constraints a ≡ n → told_or n a ≡ o → ((b : Bool) × (o ≡ Told b) × (holds_null (value_with vars a) ≡ b)) ⊎ ((x : ArgValue) × (o ≡ Written x) × (Some a ≡ Some x))
    by None g e = inr (a, sym e, refl)
    by (Some b) g e = inl (b, sym e, null_is_in a b g)

  pub told_same : (p q : Place) → order_told constraints p ≡ order_told constraints q → has_null_order vars p ≡ has_null_order vars q
  told_same p q e =
      elim (order_is (written p.args order_by) (order_told constraints p) refl) [
        | inl x ↦ elim (order_is (written q.args order_by) (order_told constraints q) refl) [
          | inl y ↦ let same : Told x.0 ≡ Told y.0 = sym x.1 ∙ e ∙ y.1 in x.2 ∙ ap (λ o. truth_in o x.0) same ∙ sym y.2
          | inr y ↦ let no : Told x.0 ≡ Written y.0 = sym x.1 ∙ e ∙ y.1 in cc
        ]
        | inr x ↦ elim (order_is (written q.args order_by) (order_told constraints q) refl) [
          | inl y ↦ let no : Written x.0 ≡ Told y.0 = sym x.1 ∙ e ∙ y.1 in cc
          | inr y ↦
              let same : Written x.0 ≡ Written y.0 = sym x.1 ∙ e ∙ y.1 in
              ap (λ w. holds_null (option_and_then (value_with vars) w)) (x.2 ∙ ap (λ o. Some (written_in o x.0)) same ∙ sym y.2)
        ]
      ]
