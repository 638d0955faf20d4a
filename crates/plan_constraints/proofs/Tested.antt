-- The tests of constraints say what constraints say.
use Rattle.std.proofs.Common.{◌≡◌, ℕ, List, [], ◌∷◌, map, Option, Some, None, Bool, true, false, ◌&&◌, refl, sym, ap, ◌∙◌}
use Rattle.std.specs.Prelude.{◌↔◌, is_some, IsSomeAnd, IsTrue}
use Rattle.std.specs.Bool.{beq}
use Rattle.std.specs.Cmp.{first_so, second_so}
use Rattle.std.specs.Str.{bytes_eq}
use Rattle.std.proofs.lemmas.Slice.Eq.{bytes_eq-Decides}
use Rattle.pg_base.specs.declared.value.Value.{Value}
use Rattle.pg_base.specs.declared.value.Member.{Member}
use Rattle.pg_base.specs.declared.vars.Vars.{Vars}
use Rattle.pg_base.specs.Value.{is_null, is_object, members_of}
use Rattle.pg_base.proofs.SameValue.{same_value_true, same_value_itself}
use Rattle.plan_constraints.specs.declared.constraint.Constraint.{Constraint}
use Rattle.plan_constraints.specs.declared.constraint.Constraint.TheVariants as constraint
use Rattle.plan_constraints.specs.Path.{value_at}
use Rattle.plan_constraints.specs.Constraints.{Meets, Hold}
use Rattle.plan_constraints.specs.Tests.{is_value, is_null_as, are_named, has_keys, meets, all_met}

pub truth_same : (a b : Bool) → beq a b ≡ true → a ≡ b
truth_same true true h = refl
truth_same true false h = cc
truth_same false true h = cc
truth_same false false h = refl

truth_itself : (a b : Bool) → a ≡ b → beq a b ≡ true
truth_itself true true h = refl
truth_itself true false h = cc
truth_itself false true h = cc
truth_itself false false h = refl

pub both_true : (a b : Bool) → a ≡ true → b ≡ true → (a && b) ≡ true
both_true true true p q = refl
both_true true false p q = cc
both_true false b p q = cc

value_is : (o : Option Value) (v : Value) → is_value o v ≡ true → o ≡ Some v
value_is None v h = cc
value_is (Some w) v h = ap (λ x. Some x) (same_value_true w v h)

is_the_value : (o : Option Value) (v : Value) → o ≡ Some v → is_value o v ≡ true
is_the_value o v h = ap (λ x. is_value x v) h ∙ same_value_itself v

null_is_as : (o : Option Value) (null : Bool) → is_null_as o null ≡ true → IsSomeAnd o (λ w. is_null w ≡ null)
null_is_as None null h = cc
null_is_as (Some w) null h = truth_same (is_null w) null h

null_tested : (o : Option Value) (null : Bool) → IsSomeAnd o (λ w. is_null w ≡ null) → is_null_as o null ≡ true
null_tested None null h = absurd h
null_tested (Some w) null h = truth_itself (is_null w) null h

names_are : (ms : List Member) (names : List (List ℕ)) → are_named ms names ≡ true → map (λ m. m.name) ms ≡ names
names_are [] [] h = refl
names_are [] (n ∷ names) h = cc
names_are (m ∷ ms) [] h = cc
names_are (m ∷ ms) (n ∷ names) h =
    ap (λ x. x ∷ map (λ m. m.name) ms) ((bytes_eq-Decides m.name n).0 (first_so _ _ h)) ∙ ap (λ xs. n ∷ xs) (names_are ms names (second_so (bytes_eq m.name n) _ h))

names_itself : (ms : List Member) → are_named ms (map (λ m. m.name) ms) ≡ true
names_itself [] = refl
names_itself (m ∷ ms) = both_true _ _ ((bytes_eq-Decides m.name m.name).1 refl) (names_itself ms)

keys_are : (o : Option Value) (names : List (List ℕ)) → has_keys o names ≡ true → IsSomeAnd o (λ w. IsTrue (is_object w) × (map (λ m. m.name) (members_of w) ≡ names))
keys_are None names h = cc
keys_are (Some w) names h = (first_so _ _ h, names_are (members_of w) names (second_so (is_object w) _ h))

keys_tested : (o : Option Value) (names : List (List ℕ)) → IsSomeAnd o (λ w. IsTrue (is_object w) × (map (λ m. m.name) (members_of w) ≡ names)) → has_keys o names ≡ true
keys_tested None names h = absurd h
keys_tested (Some w) names h = both_true (is_object w) _ h.0 (ap (are_named (members_of w)) (sym h.1) ∙ names_itself (members_of w))

pub meets_true : (vars : Vars) (c : Constraint) → meets vars c ≡ true → Meets vars c
meets_true vars (constraint.Value path v) h = value_is (value_at vars path) v h
meets_true vars (constraint.Exists path present) h = truth_same (is_some (value_at vars path)) present h
meets_true vars (constraint.Null path null) h = null_is_as (value_at vars path) null h
meets_true vars (constraint.Keys path names) h = keys_are (value_at vars path) names h

pub meets_tested : (vars : Vars) (c : Constraint) → Meets vars c → meets vars c ≡ true
meets_tested vars (constraint.Value path v) h = is_the_value (value_at vars path) v h
meets_tested vars (constraint.Exists path present) h = truth_itself (is_some (value_at vars path)) present h
meets_tested vars (constraint.Null path null) h = null_tested (value_at vars path) null h
meets_tested vars (constraint.Keys path names) h = keys_tested (value_at vars path) names h

all_true : (constraints : List Constraint) (vars : Vars) → all_met constraints vars ≡ true → Hold constraints vars
all_true [] vars h = tt
all_true (c ∷ constraints) vars h = (meets_true vars c (first_so _ _ h), all_true constraints vars (second_so (meets vars c) _ h))

all_tested : (constraints : List Constraint) (vars : Vars) → Hold constraints vars → all_met constraints vars ≡ true
all_tested [] vars h = refl
all_tested (c ∷ constraints) vars h = both_true (meets vars c) _ (meets_tested vars c h.0) (all_tested constraints vars h.1)

pub all_met_decides : (r : Bool) (constraints : List Constraint) (vars : Vars) → r ≡ all_met constraints vars → IsTrue r ↔ Hold constraints vars
all_met_decides r constraints vars e = (λ h. all_true constraints vars (sym e ∙ h), λ h. e ∙ all_tested constraints vars h)
