-- Lists of constraints, as the code makes them longer.
use Rattle.std.proofs.Common.{◌≡◌, ℕ, ◌+◌, ◌<◌, List, [], ◌∷◌, ◌++◌, map, length, get_or, drop, Some, refl, sym, ap, ◌∙◌}
use Rattle.std.specs.Prelude.{flat_map, OnOk, Result, Ok, Err}
use Rattle.pg_base.specs.declared.value.Member.{Member}
use Rattle.pg_base.specs.declared.value.Value.{Value}
use Rattle.pg_base.specs.declared.value.Value.TheVariants as value
use Rattle.pg_base.specs.declared.vars.Vars.{Vars}
use Rattle.pg_base.proofs.ListSteps.{drop-item}
use Rattle.gql_input.specs.declared.argument.ArgMember.{ArgMember}
use Rattle.gql_input.specs.declared.argument.ArgValue.{ArgValue}
use Rattle.gql_input.specs.declared.argument.ArgValue.TheVariants as arg
use Rattle.gql_input.specs.declared.argument.ArgValue.TheBlock.{hidden-the_row-ArgValue-0, hidden-the_row-ArgMember-1}
use Rattle.plan_constraints.specs.declared.constraint.Constraint.{Constraint}
use Rattle.plan_constraints.specs.Noted.{vars_in, item_vars, member_vars, noted_fields}
use Rattle.plan_constraints.specs.Same.{with_constraint, with_constraints}
use Rattle.plan_constraints.proofs.Parts.{members_of-Object}
use Rattle.step_plan.specs.Listed.{noted_members, vars_in_items, vars_in_members}

-- ---- one list after the other

pub appended : (list xs ys : List Constraint) → with_constraints list (xs ++ ys) ≡ with_constraints (with_constraints list xs) ys
appended list [] ys = refl
appended list (x ∷ xs) ys = appended (with_constraint list x) xs ys

map_joined : {A B : Type 0} (f : A → B) (xs ys : List A) → map f (xs ++ ys) ≡ map f xs ++ map f ys
map_joined f [] ys = refl
map_joined f (x ∷ xs) ys = ap (λ l. f x ∷ l) (map_joined f xs ys)

pub noted_turn : {A : Type 0} (f : A → List Constraint) (xs : List A) (i : ℕ) (x : A) (list after total : List Constraint) → i < length xs → x ≡ get_or xs i x
    → with_constraints list (flat_map f (drop i xs)) ≡ total → after ≡ with_constraints list (f x) → with_constraints after (flat_map f (drop (i + 1) xs)) ≡ total
noted_turn f xs i x list after total lt is h e =
    ap (λ l. with_constraints l (flat_map f (drop (i + 1) xs))) e
    ∙ sym (appended list (f x) (flat_map f (drop (i + 1) xs)))
    ∙ sym (ap (λ ys. with_constraints list (flat_map f ys)) (drop-item xs i x lt is))
    ∙ h

pub named_turn : {A : Type 0} (n : List ℕ → Constraint) (f : A → List (List ℕ)) (xs : List A) (i : ℕ) (x : A) (list after total : List Constraint) → i < length xs → x ≡ get_or xs i x
    → with_constraints list (map n (flat_map f (drop i xs))) ≡ total → after ≡ with_constraints list (map n (f x)) → with_constraints after (map n (flat_map f (drop (i + 1) xs))) ≡ total
named_turn n f xs i x list after total lt is h e =
    let rest : List (List ℕ) = flat_map f (drop (i + 1) xs) in
    ap (λ l. with_constraints l (map n rest)) e
    ∙ sym (appended list (map n (f x)) (map n rest))
    ∙ sym (ap (with_constraints list) (map_joined n (f x) rest))
    ∙ sym (ap (λ ys. with_constraints list (map n (flat_map f ys))) (drop-item xs i x lt is))
    ∙ h

pub two_noted : {A E : Type 0} (r : Result A E) (list between now xs ys : List Constraint) → between ≡ with_constraints list xs → OnOk r (now ≡ with_constraints between ys) → OnOk r (now ≡ with_constraints list (xs ++ ys))
two_noted (Ok a) list between now xs ys e h = h ∙ ap (λ l. with_constraints l ys) e ∙ sym (appended list xs ys)
two_noted (Err f) list between now xs ys e h = tt

-- ---- arguments and values that are made from lists

items_row : (items : List ArgValue) → item_vars (hidden-the_row-ArgValue-0 items) ≡ vars_in_items items
unfolding hidden-the_row-ArgValue-0 denote.Hole.Carrier.hidden
items_row [] = refl
items_row (a ∷ items) = ap (λ l. vars_in a ++ l) (items_row items)

members_row : (members : List ArgMember) → member_vars (hidden-the_row-ArgMember-1 members) ≡ vars_in_members members
unfolding hidden-the_row-ArgMember-1 denote.Hole.Carrier.hidden
members_row [] = refl
members_row (m ∷ members) = ap (λ l. vars_in m.value ++ l) (members_row members)

pub items_in : (a : ArgValue) (items slice : List ArgValue) → a ≡ arg.List items → slice ≡ items → vars_in_items slice ≡ vars_in a
items_in a items slice is same = ap vars_in_items same ∙ sym (items_row items) ∙ ap vars_in (sym is)

pub members_in : (a : ArgValue) (members slice : List ArgMember) → a ≡ arg.Object members → slice ≡ members → vars_in_members slice ≡ vars_in a
members_in a members slice is same = ap vars_in_members same ∙ sym (members_row members) ∙ ap vars_in (sym is)

pub object_noted : (vars : Vars) (name : List ℕ) (v : Value) (members slice : List Member) → v ≡ value.Object members → slice ≡ members → noted_members vars name slice ≡ noted_fields vars name (Some v)
object_noted vars name v members slice is same =
    ap (noted_members vars name) (same ∙ sym (members_of-Object members)) ∙ ap (λ w. noted_fields vars name (Some w)) (sym is)
