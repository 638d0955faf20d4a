-- Lists of constraints without repeats.
use Rattle.std.proofs.Common.{◌≡◌, ◌≢◌, inl, inr, ℕ, zero, suc, ◌<◌, List, [], ◌∷◌, ◌++◌, length, Bool, true, false, cond, refl, sym, ap, ◌∙◌, subst, arith}
use Rattle.std.specs.Prelude.{◌↔◌, ◌||◌, All, Contains, OnOk, Result, Ok, Err}
use Rattle.std.specs.Bool.{beq}
use Rattle.std.specs.Cmp.{first_so, second_so, unsigned_Decides}
use Rattle.std.specs.Str.{bytes_eq}
use Rattle.std.specs.Cmp.Lexicographic.{pointwise}
use Rattle.std.proofs.lemmas.Slice.Eq.{bytes_eq-Decides}
use Rattle.std.proofs.lemmas.List.Elements.{All-nil, All-cons}
use Rattle.pg_base.specs.Base.{BaseParts}
use Rattle.pg_base.specs.Lists.{Each}
use Rattle.pg_base.specs.declared.vars.Vars.{Vars}
use Rattle.pg_base.proofs.SameValue.{same_value_true, same_value_itself}
use Rattle.place_tree.specs.declared.place.Tree.{Tree}
use Rattle.plan_constraints.specs.declared.part.Part.{Part}
use Rattle.plan_constraints.specs.declared.part.Part.TheVariants as part
use Rattle.plan_constraints.specs.declared.constraint.Constraint.{Constraint}
use Rattle.plan_constraints.specs.declared.constraint.Constraint.TheVariants as constraint
use Rattle.plan_constraints.specs.Constraints.{Meets, Hold, IsNoted}
use Rattle.plan_constraints.specs.Same.{same_part, same_path, same_constraint, is_among, with_constraint, with_constraints}
use Rattle.plan_constraints.specs.Noted.{noted, noted_all}
use Rattle.plan_constraints.proofs.Tested.{truth_same, both_true}

-- ---- constraints that are the same are equal

part_same : (a b : Part) → same_part a b ≡ true → a ≡ b
part_same (part.Name a) (part.Name b) h = ap part.Name ((bytes_eq-Decides a b).0 h)
part_same (part.Index i) (part.Index j) h = ap part.Index ((unsigned_Decides i j).0 h)
part_same (part.Name a) (part.Index j) h = cc
part_same (part.Index i) (part.Name b) h = cc

part_itself : (a : Part) → same_part a a ≡ true
part_itself (part.Name a) = (bytes_eq-Decides a a).1 refl
part_itself (part.Index i) = (unsigned_Decides i i).1 refl

all_same : {A : Type 0} (same : A → A → Bool) → ((a b : A) → same a b ≡ true → a ≡ b) → (xs ys : List A) → pointwise same xs ys ≡ true → xs ≡ ys
all_same same f [] [] h = refl
all_same same f [] (y ∷ ys) h = cc
all_same same f (x ∷ xs) [] h = cc
all_same same f (x ∷ xs) (y ∷ ys) h = ap (λ z. z ∷ xs) (f x y (first_so _ _ h)) ∙ ap (λ l. y ∷ l) (all_same same f xs ys (second_so (same x y) _ h))

all_itself : {A : Type 0} (same : A → A → Bool) → ((a : A) → same a a ≡ true) → (xs : List A) → pointwise same xs xs ≡ true
all_itself same f [] = refl
all_itself same f (x ∷ xs) = both_true _ _ (f x) (all_itself same f xs)

path_same : (p q : List Part) → same_path p q ≡ true → p ≡ q
path_same p q h = all_same same_part part_same p q h

path_itself : (p : List Part) → same_path p p ≡ true
path_itself p = all_itself same_part part_itself p

names_same : (l m : List (List ℕ)) → pointwise bytes_eq l m ≡ true → l ≡ m
names_same l m h = all_same bytes_eq (λ a b e. (bytes_eq-Decides a b).0 e) l m h

truth_itself : (b : Bool) → beq b b ≡ true
truth_itself true = refl
truth_itself false = refl

pub constraint_same : (c d : Constraint) → same_constraint c d ≡ true → c ≡ d
constraint_same (constraint.Value p v) (constraint.Value q w) h = ap (λ x. constraint.Value x v) (path_same p q (first_so _ _ h)) ∙ ap (constraint.Value q) (same_value_true v w (second_so (same_path p q) _ h))
constraint_same (constraint.Exists p a) (constraint.Exists q b) h = ap (λ x. constraint.Exists x a) (path_same p q (first_so _ _ h)) ∙ ap (constraint.Exists q) (truth_same a b (second_so (same_path p q) _ h))
constraint_same (constraint.Null p a) (constraint.Null q b) h = ap (λ x. constraint.Null x a) (path_same p q (first_so _ _ h)) ∙ ap (constraint.Null q) (truth_same a b (second_so (same_path p q) _ h))
constraint_same (constraint.Keys p l) (constraint.Keys q m) h = ap (λ x. constraint.Keys x l) (path_same p q (first_so _ _ h)) ∙ ap (constraint.Keys q) (names_same l m (second_so (same_path p q) _ h))
constraint_same _ _ h = cc

pub constraint_itself : (c : Constraint) → same_constraint c c ≡ true
constraint_itself (constraint.Value p v) = both_true _ _ (path_itself p) (same_value_itself v)
constraint_itself (constraint.Exists p a) = both_true _ _ (path_itself p) (truth_itself a)
constraint_itself (constraint.Null p a) = both_true _ _ (path_itself p) (truth_itself a)
constraint_itself (constraint.Keys p l) = both_true _ _ (path_itself p) (all_itself bytes_eq (λ a. (bytes_eq-Decides a a).1 refl) l)

-- ---- a constraint among others

here : (c d : Constraint) (list : List Constraint) → c ≡ d → Contains (d ∷ list) c
here c d list e = (zero, omega arith, sym e)

further : (c d : Constraint) (list : List Constraint) → Contains list c → Contains (d ∷ list) c
further c d list h = let lt : suc h.0 < length (d ∷ list) = omega (arith, h.1) in (suc h.0, lt, h.2)

among_step : (c d : Constraint) (list : List Constraint) (b : Bool) → same_constraint c d ≡ b → (b || is_among c list) ≡ true → (is_among c list ≡ true → Contains list c) → Contains (d ∷ list) c
among_step c d list true e h rest = here c d list (constraint_same c d e)
among_step c d list false e h rest = further c d list (rest h)

pub among_contains : (c : Constraint) (list : List Constraint) → is_among c list ≡ true → Contains list c
among_contains c [] h = cc
among_contains c (d ∷ list) h = among_step c d list (same_constraint c d) refl h (among_contains c list)

differs : (c d : Constraint) → same_constraint c d ≡ false → d ≢ c
differs c d h e = let t : same_constraint c d ≡ true = ap (same_constraint c) e ∙ constraint_itself c in cc

apart_step : (c d : Constraint) (list : List Constraint) (b : Bool) → same_constraint c d ≡ b → (b || is_among c list) ≡ false → (is_among c list ≡ false → All (λ x. x ≢ c) list) → All (λ x. x ≢ c) (d ∷ list)
apart_step c d list true e h rest = cc
apart_step c d list false e h rest = All-cons (λ x. x ≢ c) d list (differs c d e) (rest h)

pub apart : (c : Constraint) (list : List Constraint) → is_among c list ≡ false → All (λ x. x ≢ c) list
apart c [] h = All-nil (λ x. x ≢ c)
apart c (d ∷ list) h = apart_step c d list (same_constraint c d) refl h (apart c list)

pub is_kept : (c : Constraint) (list : List Constraint) → true ≡ is_among c list → IsNoted list c list
is_kept c list h = inl (among_contains c list (sym h), refl)

pub is_added : (c : Constraint) (list now : List Constraint) → false ≡ is_among c list → now ≡ list ++ c ∷ [] → IsNoted list c now
is_added c list now h e = inr (apart c list (sym h), e)

pub with_kept : (c : Constraint) (list : List Constraint) → true ≡ is_among c list → list ≡ with_constraint list c
with_kept c list h = ap (λ b. cond b list (list ++ c ∷ [])) h

pub with_added : (c : Constraint) (list now : List Constraint) → false ≡ is_among c list → now ≡ list ++ c ∷ [] → now ≡ with_constraint list c
with_added c list now h e = e ∙ ap (λ b. cond b list (list ++ c ∷ [])) h

pub added_if_ok : {A E : Type 0} (r : Result A E) (c : Constraint) (list now : List Constraint) → false ≡ is_among c list → OnOk r (now ≡ list ++ c ∷ []) → OnOk r (IsNoted list c now)
added_if_ok (Ok a) c list now h e = is_added c list now h e
added_if_ok (Err f) c list now h e = tt

-- ---- what holds of a list without repeats

module _ (P : Constraint → Type 0) where
  first_or : (c d : Constraint) (list : List Constraint) (b : Bool) → same_constraint c d ≡ b → (b || is_among c list) ≡ true → P d → (is_among c list ≡ true → P c) → P c
  first_or c d list true q e p f = subst P (sym (constraint_same c d q)) p
  first_or c d list false q e p f = f e

  kept_also : (c : Constraint) (list : List Constraint) → is_among c list ≡ true → Each P list → P c
  kept_also c [] e h = cc
  kept_also c (d ∷ list) e h = first_or c d list (same_constraint c d) refl e h.0 (λ r. kept_also c list r h.1)

  each_last : (list : List Constraint) (c : Constraint) → Each P list → P c → Each P (list ++ c ∷ [])
  each_last [] c h p = (p, tt)
  each_last (d ∷ list) c h p = (h.0, each_last list c h.1 p)

  last_of : (list : List Constraint) (c : Constraint) → Each P (list ++ c ∷ []) → Each P list × P c
  last_of [] c h = (tt, h.0)
  last_of (d ∷ list) c h = let r = last_of list c h.1 in ((h.0, r.0), r.1)

  parted : (list : List Constraint) (c : Constraint) (b : Bool) → is_among c list ≡ b → Each P (cond b list (list ++ c ∷ [])) → Each P list × P c
  parted list c true e h = (h, kept_also c list e h)
  parted list c false e h = last_of list c h

  joined : (list : List Constraint) (c : Constraint) (b : Bool) → Each P list → P c → Each P (cond b list (list ++ c ∷ []))
  joined list c true h p = h
  joined list c false h p = each_last list c h p

  pub hold_with : (list more : List Constraint) → Each P (with_constraints list more) → Each P list × Each P more
  hold_with list [] h = (h, tt)
  hold_with list (c ∷ more) h =
      let r = hold_with (with_constraint list c) more h in
      let s = parted list c (is_among c list) refl r.0 in (s.0, (s.1, r.1))

  pub with_holds : (list more : List Constraint) → Each P list → Each P more → Each P (with_constraints list more)
  with_holds list [] h k = h
  with_holds list (c ∷ more) h k = with_holds (with_constraint list c) more (joined list c (is_among c list) h k.0) k.1

pub all_noted : (base : BaseParts) (vars other : Vars) (tree : Tree) → Hold (noted base vars tree) other → Hold (noted_all base vars tree) other
all_noted base vars other tree h = (hold_with (Meets other) [] (noted_all base vars tree) h).1

pub noted_once : (base : BaseParts) (vars other : Vars) (tree : Tree) → Hold (noted_all base vars tree) other → Hold (noted base vars tree) other
noted_once base vars other tree h = with_holds (Meets other) [] (noted_all base vars tree) tt h

pub noted_hold : (base : BaseParts) (vars other : Vars) (tree : Tree) → Hold (noted base vars tree) other ↔ Hold (noted_all base vars tree) other
noted_hold base vars other tree = (all_noted base vars other tree, noted_once base vars other tree)
