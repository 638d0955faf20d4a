-- What the noted constraints keep of a list's arguments: whether each part of a window is given, the order, and the columns of the condition.
use Rattle.std.proofs.Common.{◌≡◌, ℕ, List, [], ◌∷◌, ◌++◌, map, Option, Some, None, Bool, true, false, not, refl, sym, ap, ◌∙◌, subst}
use Rattle.std.specs.Prelude.{zero, suc, slice_get, flat_map, if◌then◌else◌, is_some, IsSomeAnd, IsTrue, ◌||◌, unwrap_or}
use Rattle.std.specs.Option.{option_and_then}
use Rattle.pg_base.specs.Lists.{Each}
use Rattle.pg_base.specs.declared.value.Value.{Value}
use Rattle.pg_base.specs.declared.value.Value as v
use Rattle.pg_base.specs.declared.value.Value.TheVariants as value
use Rattle.pg_base.specs.declared.value.Member.{Member}
use Rattle.pg_base.specs.declared.vars.Vars.{Vars}
use Rattle.gql_input.specs.declared.argument.ArgValue.{ArgValue, Null, Int, Bool as BoolOf, Text, Case, List', Object', Variable, Row_of-ArgValue, end_of-ArgValue, more_of-ArgValue, Row_of-ArgMember, end_of-ArgMember, more_of-ArgMember}
use Rattle.pg_base.specs.Vars.{variable}
use Rattle.pg_base.specs.Value.{is_null, is_object, members_of}
use Rattle.gql_input.specs.Arguments.{and_given, value_with, values_with, members_with}
use Rattle.plan_constraints.proofs.Parts.{members_of-Object}
use Rattle.plan_constraints.specs.declared.constraint.Constraint.{Constraint}
use Rattle.plan_constraints.specs.Constraints.{Meets, Hold, shape, field_names}
use Rattle.plan_constraints.proofs.Kept.{whole_keeps, shape_keeps}
use Rattle.plan_constraints.specs.Laws.{IsShapedAs, IsCondition, IsSteady, names_given}
use Rattle.plan_constraints.specs.Path.{to_variable}
use Rattle.pg_base.specs.Base.{BaseParts}
use Rattle.place_tree.specs.declared.place.Place.{Place}
use Rattle.place_tree.specs.declared.place.Tree.{Tree}
use Rattle.place_tree.specs.Arguments as a
use Rattle.place_tree.specs.Arguments.{is_given, members_or_none, argument, written}
use Rattle.place_tree.specs.Fields.{is_list}
use Rattle.plan_constraints.specs.Noted.{vars_in, item_vars, member_vars, whole_of, shape_of, noted_window, noted_order, noted_fields, noted_condition, noted_arguments, noted_where, noted_at, noted_all}

pub Each-left : {A : Type 0} (P : A → Type 0) (xs ys : List A) → Each P (xs ++ ys) → Each P xs
Each-left P [] ys h = tt
Each-left P (x ∷ xs) ys h = (h.0, Each-left P xs ys h.1)

pub Each-right : {A : Type 0} (P : A → Type 0) (xs ys : List A) → Each P (xs ++ ys) → Each P ys
Each-right P [] ys h = h
Each-right P (x ∷ xs) ys h = Each-right P xs ys h.1

pub Each-of_map : {A B : Type 0} (P : B → Type 0) (Q : A → Type 0) (f : A → B) → ((x : A) → P (f x) → Q x) → (xs : List A) → Each P (map f xs) → Each Q xs
Each-of_map P Q f step [] h = tt
Each-of_map P Q f step (x ∷ xs) h = (step x h.0, Each-of_map P Q f step xs h.1)

-- ---- windows

pub given_alike : (a b : Option Value) → IsShapedAs a b → is_given a ≡ is_given b
given_alike None None h = refl
given_alike None (Some w) h = let e = h.present in cc
given_alike (Some u) None h = let e = h.present in cc
given_alike (Some u) (Some w) h = ap not (h.null u w refl refl)

pub window_steady : (vars other : Vars) (a : Option ArgValue) → Hold (noted_window vars a) other → is_given (option_and_then (value_with other) a) ≡ is_given (option_and_then (value_with vars) a)
window_steady vars other None h = refl
window_steady vars other (Some (Variable name)) h = given_alike (variable other name) (variable vars name) (shape_keeps other (to_variable name) (variable vars name) h.0)
window_steady vars other (Some Null) h = refl
window_steady vars other (Some (Int n)) h = refl
window_steady vars other (Some (BoolOf b)) h = refl
window_steady vars other (Some (Text t)) h = refl
window_steady vars other (Some (Case c)) h = refl
window_steady vars other (Some (List' s xs)) h = refl
window_steady vars other (Some (Object' s xs)) h = refl

-- ---- orders

-- the variable has one value in both
abbrev IsSame : Vars → Vars → List ℕ → Type 0
IsSame vars other name = variable other name ≡ variable vars name

mutual
  pub given_same : (vars other : Vars) (a : ArgValue) → Each (IsSame vars other) (vars_in a) → value_with other a ≡ value_with vars a
  given_same vars other (Variable name) h = h.0
  given_same vars other Null h = refl
  given_same vars other (Int n) h = refl
  given_same vars other (BoolOf b) h = refl
  given_same vars other (Text t) h = refl
  given_same vars other (Case c) h = refl
  given_same vars other (List' s xs) h = ap (λ vs. Some (value.List vs)) (items_same vars other xs h)
  given_same vars other (Object' s ms) h = ap (λ vs. Some (value.Object vs)) (members_same vars other ms h)

  items_same : {n : _} (vars other : Vars) (xs : Row_of-ArgValue n) → Each (IsSame vars other) (item_vars xs) → values_with other xs ≡ values_with vars xs
  items_same vars other end_of-ArgValue h = refl
  items_same vars other (more_of-ArgValue a rest) h =
      ap (λ o. unwrap_or o value.Null ∷ values_with other rest) (given_same vars other a (Each-left (IsSame vars other) (vars_in a) (item_vars rest) h))
      ∙ ap (λ vs. unwrap_or (value_with vars a) value.Null ∷ vs) (items_same vars other rest (Each-right (IsSame vars other) (vars_in a) (item_vars rest) h))

  members_same : {n : _} (vars other : Vars) (ms : Row_of-ArgMember n) → Each (IsSame vars other) (member_vars ms) → members_with other ms ≡ members_with vars ms
  members_same vars other end_of-ArgMember h = refl
  members_same vars other (more_of-ArgMember name a rest) h =
      ap (λ o. and_given name o (members_with other rest)) (given_same vars other a (Each-left (IsSame vars other) (vars_in a) (member_vars rest) h))
      ∙ ap (λ vs. and_given name (value_with vars a) vs) (members_same vars other rest (Each-right (IsSame vars other) (vars_in a) (member_vars rest) h))

pub order_steady : (vars other : Vars) (a : Option ArgValue) → Hold (noted_order vars a) other → option_and_then (value_with other) a ≡ option_and_then (value_with vars) a
order_steady vars other None h = refl
order_steady vars other (Some a) h =
    given_same vars other a (Each-of_map (Meets other) (IsSame vars other) (whole_of vars) (λ name m. whole_keeps other (to_variable name) (variable vars name) m) (vars_in a) h)

-- ---- conditions

-- present in both, or in neither
abbrev pub IsAlike : Vars → Vars → List ℕ → Type 0
IsAlike vars other name = is_some (variable other name) ≡ is_some (variable vars name)

pub present_same : (vars other : Vars) (a : ArgValue) → Each (IsAlike vars other) (vars_in a) → is_some (value_with other a) ≡ is_some (value_with vars a)
present_same vars other (Variable name) h = h.0
present_same vars other Null h = refl
present_same vars other (Int n) h = refl
present_same vars other (BoolOf b) h = refl
present_same vars other (Text t) h = refl
present_same vars other (Case c) h = refl
present_same vars other (List' s xs) h = refl
present_same vars other (Object' s xs) h = refl

with_name : (name : List ℕ) (a b : Option Value) (xs ys : List Member) → is_some a ≡ is_some b → map (λ m. m.name) xs ≡ map (λ m. m.name) ys → map (λ m. m.name) (and_given name a xs) ≡ map (λ m. m.name) (and_given name b ys)
with_name name None None xs ys p e = e
with_name name None (Some w) xs ys p e = cc
with_name name (Some u) None xs ys p e = cc
with_name name (Some u) (Some w) xs ys p e = ap (λ l. name ∷ l) e

names_same : {n : _} (vars other : Vars) (ms : Row_of-ArgMember n) → Each (IsAlike vars other) (member_vars ms) → map (λ m. m.name) (members_with other ms) ≡ map (λ m. m.name) (members_with vars ms)
names_same vars other end_of-ArgMember h = refl
names_same vars other (more_of-ArgMember name a rest) h =
    with_name name (value_with other a) (value_with vars a) (members_with other rest) (members_with vars rest)
    (present_same vars other a (Each-left (IsAlike vars other) (vars_in a) (member_vars rest) h))
    (names_same vars other rest (Each-right (IsAlike vars other) (vars_in a) (member_vars rest) h))

by_keys : (q : Option Value) (names : List (List ℕ)) → IsSomeAnd q (λ u. IsTrue (is_object u) × (map (λ m. m.name) (members_of u) ≡ names)) → names_given q ≡ names
by_keys None names h = absurd h
by_keys (Some u) names h = h.1

none_names : (q : Option Value) → is_some q ≡ false → names_given q ≡ []
none_names None h = refl
none_names (Some u) h = cc

null_names : (q : Option Value) → IsSomeAnd q (λ u. is_null u ≡ true) → names_given q ≡ []
null_names None h = absurd h
null_names (Some v.Null) h = refl
null_names (Some (v.Int n)) h = refl
null_names (Some (v.Bool b)) h = refl
null_names (Some (v.Text t)) h = refl
null_names (Some (v.Case c)) h = refl
null_names (Some (v.List' s xs)) h = refl
null_names (Some (v.Object' s xs)) h = cc

null_or : (w : Value) → (is_null w || is_object w) ≡ true → is_object w ≡ false → w ≡ v.Null
null_or v.Null h e = refl
null_or (v.Int n) h e = cc
null_or (v.Bool b) h e = cc
null_or (v.Text t) h e = cc
null_or (v.Case c) h e = cc
null_or (v.List' s xs) h e = cc
null_or (v.Object' s xs) h e = cc

chosen_true : (b : Bool) (xs : List Constraint) (other : Vars) → b ≡ true → Hold (if b then xs else []) other → Hold xs other
chosen_true true xs other e h = h
chosen_true false xs other e h = cc

variable_names : (vars other : Vars) (name : List ℕ) (o : Option Value) → Meets other (shape (to_variable name) o) → Hold (noted_fields vars name o) other → IsCondition o → names_given (variable other name) ≡ names_given o
variable_names vars other name None m h c = none_names (variable other name) m
variable_names vars other name (Some w) m h c = by (is_object w) refl
  where
    by : (b : Bool) → is_object w ≡ b → names_given (variable other name) ≡ names_given (Some w)
    by true e = by_keys (variable other name) (field_names w) (chosen_true (is_object w) _ other e h).0
    by false e =
        let is = null_or w c e in
        let shaped : Meets other (shape (to_variable name) (Some v.Null)) = subst (λ x. Meets other (shape (to_variable name) (Some x))) is m in
        null_names (variable other name) shaped ∙ ap (λ x. names_given (Some x)) (sym is)

pub shape_alike : (vars other : Vars) (names : List (List ℕ)) → Hold (map (shape_of vars) names) other → Each (IsAlike vars other) names
shape_alike vars other names h = Each-of_map (Meets other) (IsAlike vars other) (shape_of vars) (λ name m. (shape_keeps other (to_variable name) (variable vars name) m).present) names h

pub condition_steady : (vars other : Vars) (a : Option ArgValue) → Hold (noted_condition vars a) other → IsCondition (option_and_then (value_with vars) a) → names_given (option_and_then (value_with other) a) ≡ names_given (option_and_then (value_with vars) a)
condition_steady vars other None h c = refl
condition_steady vars other (Some (Variable name)) h c = variable_names vars other name (variable vars name) h.0 h.1 c
condition_steady vars other (Some (Object' s ms)) h c =
    ap (map (λ m. m.name)) (members_of-Object (members_with other ms))
    ∙ names_same vars other ms (shape_alike vars other (member_vars ms) h)
    ∙ ap (map (λ m. m.name)) (sym (members_of-Object (members_with vars ms)))
condition_steady vars other (Some (List' s xs)) h c = refl
condition_steady vars other (Some Null) h c = refl
condition_steady vars other (Some (Int n)) h c = refl
condition_steady vars other (Some (BoolOf b)) h c = refl
condition_steady vars other (Some (Text t)) h c = refl
condition_steady vars other (Some (Case n)) h c = refl

-- ---- a list's arguments

pub list_steady : (vars other : Vars) (p : Place) → Hold (noted_arguments vars p) other → IsCondition (argument vars p a.condition) → IsSteady vars other p
list_steady vars other p h c =
    let w : ℕ → List Constraint = λ n. noted_window vars (written p.args n) in
    let o : List Constraint = noted_order vars (written p.args a.order_by) in
    let d : List Constraint = noted_condition vars (written p.args a.condition) in
    let M = Meets other in
    let h1 = Each-right M (w a.first) (w a.last ++ (w a.offset ++ (w a.before ++ (w a.after ++ (o ++ d))))) h in
    let h2 = Each-right M (w a.last) (w a.offset ++ (w a.before ++ (w a.after ++ (o ++ d)))) h1 in
    let h3 = Each-right M (w a.offset) (w a.before ++ (w a.after ++ (o ++ d))) h2 in
    let h4 = Each-right M (w a.before) (w a.after ++ (o ++ d)) h3 in
    let h5 = Each-right M (w a.after) (o ++ d) h4 in
    record {
      first = window_steady vars other (written p.args a.first) (Each-left M (w a.first) (w a.last ++ (w a.offset ++ (w a.before ++ (w a.after ++ (o ++ d))))) h);
      last = window_steady vars other (written p.args a.last) (Each-left M (w a.last) (w a.offset ++ (w a.before ++ (w a.after ++ (o ++ d)))) h1);
      offset = window_steady vars other (written p.args a.offset) (Each-left M (w a.offset) (w a.before ++ (w a.after ++ (o ++ d))) h2);
      before = window_steady vars other (written p.args a.before) (Each-left M (w a.before) (w a.after ++ (o ++ d)) h3);
      after = window_steady vars other (written p.args a.after) (Each-left M (w a.after) (o ++ d) h4);
      order = order_steady vars other (written p.args a.order_by) (Each-left M o d h5);
      condition = condition_steady vars other (written p.args a.condition) (Each-right M o d h5) c;
    }

-- ---- all places

each_place : (base : BaseParts) (vars other : Vars) (places : List Place) (i : ℕ) (p : Place) → slice_get places i ≡ Some p → Hold (flat_map (noted_at base vars) places) other → Hold (noted_at base vars p) other
each_place base vars other [] i p at h = cc
each_place base vars other (q ∷ places) zero p at h = subst (λ x. Hold (noted_at base vars x) other) (the_same q p at) (Each-left (Meets other) (noted_at base vars q) (flat_map (noted_at base vars) places) h)
  where
    or : Place → Option Place → Place
    or d None = d
    or d (Some x) = x

    the_same : (q p : Place) → Some q ≡ Some p → q ≡ p
    the_same q p e = ap (λ x. or q x) e
each_place base vars other (q ∷ places) (suc i) p at h = each_place base vars other places i p at (Each-right (Meets other) (noted_at base vars q) (flat_map (noted_at base vars) places) h)

-- what is noted at a list's place
at_list : (vars other : Vars) (p : Place) (b : Bool) → b ≡ true → Hold (noted_where b vars p) other → Hold (noted_arguments vars p) other
at_list vars other p true e h = h
at_list vars other p false e h = cc

pub noted_there : (base : BaseParts) (vars other : Vars) (tree : Tree) → Hold (noted_all base vars tree) other → (i : ℕ) (p : Place) → slice_get tree.places i ≡ Some p → is_list base p ≡ true → Hold (noted_arguments vars p) other
noted_there base vars other tree h i p at l =
    at_list vars other p (is_list base p) l (each_place base vars other tree.places i p at (Each-right (Meets other) (map (whole_of vars) tree.asked) (flat_map (noted_at base vars) tree.places) h))

-- where the noted constraints hold of other variables, each list's arguments are steady
pub noted_steady : (base : BaseParts) (vars other : Vars) (tree : Tree) → Hold (noted_all base vars tree) other → (i : ℕ) (p : Place) → slice_get tree.places i ≡ Some p → is_list base p ≡ true → IsCondition (argument vars p a.condition) → IsSteady vars other p
noted_steady base vars other tree h i p at l c = list_steady vars other p (noted_there base vars other tree h i p at l) c
