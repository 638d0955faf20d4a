-- Two fields that are alike a third one are alike.
use Rattle.std.proofs.Common.{◌≡◌, inl, inr, ℕ, Bool, true, false, ◌&&◌, ◌||◌, List, [], ◌∷◌, map, refl, sym, ap, subst, ◌∙◌}
use Rattle.std.specs.Bool.{beq}
use Rattle.std.specs.List.{list_any, list_all}
use Rattle.std.specs.Str.{bytes_eq}
use Rattle.std.proofs.lemmas.Bool.{and_from, and_parts}
use Rattle.std.proofs.lemmas.Slice.Eq.{bytes_eq-Decides}
use Rattle.gql_reader.specs.declared.tree.Argument.{Argument}
use Rattle.gql_reader.specs.declared.tree.Field.{Field}
use Rattle.gql_reader.specs.declared.tree.ValueKind.{ValueKind, Variable, Int, Float, String, Boolean, Null, Enum}
use Rattle.gql_reader.specs.declared.tree.ValueKind.{List', Object', Row_of-Value, end_of-Value, more_of-Value}
use Rattle.gql_reader.specs.declared.tree.ValueKind.{Row_of-ObjectField, end_of-ObjectField, more_of-ObjectField}
use Rattle.gql_nodes.specs.Reached.{IsIn}
use Rattle.gql_validate.specs.SameValues.{Test, Given, meets, are_same, same_kind, same_items, tests_of, given_in, test_of, given_of, same_arguments}
use Rattle.gql_validate.specs.FieldSelectionMerging.{are_alike}
use Rattle.gql_validate.proofs.Spreading.{or_left, or_right}

-- ---- tests of all and of some

all_tell : {A : Type 0} (p : A → Bool) (xs : List A) → list_all p xs ≡ true → (x : A) → IsIn xs x → p x ≡ true
all_tell p [] e x h = absurd h
all_tell p (y ∷ xs) e x (inl same) = subst (λ z. p z ≡ true) same (and_parts (p y) (list_all p xs) e).0
all_tell p (y ∷ xs) e x (inr h) = all_tell p xs (and_parts (p y) (list_all p xs) e).1 x h

tell_all : {A : Type 0} (p : A → Bool) (xs : List A) → ((x : A) → IsIn xs x → p x ≡ true) → list_all p xs ≡ true
tell_all p [] go = refl
tell_all p (y ∷ xs) go = and_from (p y) (list_all p xs) (go y (inl refl)) (tell_all p xs (λ x h. go x (inr h)))

record Some_of {A : Type 0} (p : A → Bool) (xs : List A) : Type 0 where
  item : A
  stands : IsIn xs item
  passes : p item ≡ true

some_by : {A : Type 0} (p : A → Bool) (y : A) (xs : List A) (b : Bool) → p y ≡ b → (list_any p xs ≡ true → Some_of p xs) → (b || list_any p xs) ≡ true → Some_of p (y ∷ xs)
some_by p y xs true is go e = record { item = y; stands = inl refl; passes = is }
some_by p y xs false is go e = let s = go e in record { item = s.item; stands = inr s.stands; passes = s.passes }

any_tell : {A : Type 0} (p : A → Bool) (xs : List A) → list_any p xs ≡ true → Some_of p xs
any_tell p [] e = absurd (cc)
any_tell p (y ∷ xs) e = some_by p y xs (p y) refl (any_tell p xs) e

tell_any : {A : Type 0} (p : A → Bool) (xs : List A) (x : A) → IsIn xs x → p x ≡ true → list_any p xs ≡ true
tell_any p [] x h e = absurd h
tell_any p (y ∷ xs) x (inl same) e = or_left (p y) (list_any p xs) (subst (λ z. p z ≡ true) (sym same) e)
tell_any p (y ∷ xs) x (inr h) e = or_right (p y) (list_any p xs) (tell_any p xs x h e)

-- ---- named items in any order

third : (s t u : List ℕ) → bytes_eq s t ≡ true → bytes_eq s u ≡ true → bytes_eq t u ≡ true
third s t u e d = (bytes_eq-Decides t u).1 (sym ((bytes_eq-Decides s t).0 e) ∙ (bytes_eq-Decides s u).0 d)

abbrev test_at : Given → Test
test_at g = record { name = g.name; is_same = λ other. same_kind g.kind other }

abbrev Carries : Test → Type 0
Carries t = (b c : ValueKind) → t.is_same b ≡ true → t.is_same c ≡ true → same_kind b c ≡ true

meet_third : (t : Test) (y z : Given) → Carries t → meets t y ≡ true → meets t z ≡ true → meets (test_at y) z ≡ true
meet_third t y z carries e d =
    let p = and_parts (bytes_eq t.name y.name) (t.is_same y.kind) e in
    let q = and_parts (bytes_eq t.name z.name) (t.is_same z.kind) d in
    and_from (bytes_eq y.name z.name) (same_kind y.kind z.kind) (third t.name y.name z.name p.0 q.0) (carries y.kind z.kind p.1 q.1)

module _ (ts : List Test) (ys zs : List Given) (carries : (t : Test) → IsIn ts t → Carries t) where
  abbrev Among : List Given → Type 0
  Among gs = list_all (λ t. list_any (meets t) gs) ts ≡ true

  abbrev Has : List Given → Type 0
  Has gs = list_all (λ g. list_any (λ t. meets t g) ts) gs ≡ true

  one_among : Has ys → Among zs → (y : Given) → IsIn ys y → list_any (meets (test_at y)) zs ≡ true
  one_among has among y h =
      let t = any_tell (λ t. meets t y) ts (all_tell (λ g. list_any (λ t. meets t g) ts) ys has y h) in
      let z = any_tell (meets t.item) zs (all_tell (λ t. list_any (meets t) zs) ts among t.item t.stands) in
      tell_any (meets (test_at y)) zs z.item z.stands (meet_third t.item y z.item (carries t.item t.stands) t.passes z.passes)

  one_had : Among ys → Has zs → (z : Given) → IsIn zs z → list_any (λ y. meets (test_at y) z) ys ≡ true
  one_had among has z h =
      let t = any_tell (λ t. meets t z) ts (all_tell (λ g. list_any (λ t. meets t g) ts) zs has z h) in
      let y = any_tell (meets t.item) ys (all_tell (λ t. list_any (meets t) ys) ts among t.item t.stands) in
      tell_any (λ y. meets (test_at y) z) ys y.item y.stands (meet_third t.item y.item z (carries t.item t.stands) y.passes t.passes)

all_mapped : (p : Test → Bool) (ys : List Given) → list_all p (map test_at ys) ≡ list_all (λ y. p (test_at y)) ys
all_mapped p [] = refl
all_mapped p (y ∷ ys) = ap (λ b. p (test_at y) && b) (all_mapped p ys)

any_mapped : (p : Test → Bool) (ys : List Given) → list_any p (map test_at ys) ≡ list_any (λ y. p (test_at y)) ys
any_mapped p [] = refl
any_mapped p (y ∷ ys) = ap (λ b. p (test_at y) || b) (any_mapped p ys)

same_third : (ts : List Test) (ys zs : List Given) → ((t : Test) → IsIn ts t → Carries t) → are_same ts ys ≡ true → are_same ts zs ≡ true → are_same (map test_at ys) zs ≡ true
same_third ts ys zs carries e d =
    let p = and_parts (list_all (λ t. list_any (meets t) ys) ts) (list_all (λ g. list_any (λ t. meets t g) ts) ys) e in
    let q = and_parts (list_all (λ t. list_any (meets t) zs) ts) (list_all (λ g. list_any (λ t. meets t g) ts) zs) d in
    and_from (list_all (λ t. list_any (meets t) zs) (map test_at ys)) (list_all (λ g. list_any (λ t. meets t g) (map test_at ys)) zs)
    (all_mapped (λ t. list_any (meets t) zs) ys ∙ tell_all (λ y. list_any (meets (test_at y)) zs) ys (one_among ts ys zs carries p.1 q.0))
    (tell_all (λ g. list_any (λ t. meets t g) (map test_at ys)) zs (λ z h. any_mapped (λ t. meets t z) ys ∙ one_had ts ys zs carries p.0 q.1 z h))

-- ---- values

tests_given : {n : _} (ys : Row_of-ObjectField n) → tests_of ys ≡ map test_at (given_in ys)
tests_given end_of-ObjectField = refl
tests_given (more_of-ObjectField name kind place pos rest) = ap (λ l. test_at (record { name = name; kind = kind }) ∷ l) (tests_given rest)

variable_is : (s : List ℕ) (b : ValueKind) → same_kind (Variable s) b ≡ true → Variable s ≡ b
variable_is s (Variable t) e = ap Variable ((bytes_eq-Decides s t).0 e)
variable_is s _ e = absurd (cc)

int_is : (s : List ℕ) (b : ValueKind) → same_kind (Int s) b ≡ true → Int s ≡ b
int_is s (Int t) e = ap Int ((bytes_eq-Decides s t).0 e)
int_is s _ e = absurd (cc)

float_is : (s : List ℕ) (b : ValueKind) → same_kind (Float s) b ≡ true → Float s ≡ b
float_is s (Float t) e = ap Float ((bytes_eq-Decides s t).0 e)
float_is s _ e = absurd (cc)

string_is : (s : List ℕ) (b : ValueKind) → same_kind (String s) b ≡ true → String s ≡ b
string_is s (String t) e = ap String ((bytes_eq-Decides s t).0 e)
string_is s _ e = absurd (cc)

enum_is : (s : List ℕ) (b : ValueKind) → same_kind (Enum s) b ≡ true → Enum s ≡ b
enum_is s (Enum t) e = ap Enum ((bytes_eq-Decides s t).0 e)
enum_is s _ e = absurd (cc)

truth_is : (a b : Bool) → beq a b ≡ true → a ≡ b
truth_is true true e = refl
truth_is false false e = refl
truth_is _ _ e = absurd (cc)

boolean_is : (a : Bool) (b : ValueKind) → same_kind (Boolean a) b ≡ true → Boolean a ≡ b
boolean_is a (Boolean b) e = ap Boolean (truth_is a b e)
boolean_is a _ e = absurd (cc)

null_is : (b : ValueKind) → same_kind Null b ≡ true → Null ≡ b
null_is Null e = refl
null_is _ e = absurd (cc)

abbrev SameTo : ValueKind → ValueKind → Type 0
SameTo c x = same_kind x c ≡ true

mutual
  kinds : (a b c : ValueKind) → same_kind a b ≡ true → same_kind a c ≡ true → same_kind b c ≡ true
  kinds (Variable s) b c e d = subst (SameTo c) (variable_is s b e) d
  kinds (Int s) b c e d = subst (SameTo c) (int_is s b e) d
  kinds (Float s) b c e d = subst (SameTo c) (float_is s b e) d
  kinds (String s) b c e d = subst (SameTo c) (string_is s b e) d
  kinds (Boolean a) b c e d = subst (SameTo c) (boolean_is a b e) d
  kinds Null b c e d = subst (SameTo c) (null_is b e) d
  kinds (Enum s) b c e d = subst (SameTo c) (enum_is s b e) d
  kinds (List' _ xs) (List' _ ys) (List' _ zs) e d = items xs ys zs e d
  kinds (Object' _ xs) (Object' _ ys) (Object' _ zs) e d =
      ap (λ ts. are_same ts (given_in zs)) (tests_given ys) ∙ same_third (tests_of xs) (given_in ys) (given_in zs) (λ t h b c. carry xs t h b c) e d
  kinds _ _ _ e d = absurd (cc)

  items : {m : _} {n : _} {k : _} (xs : Row_of-Value m) (ys : Row_of-Value n) (zs : Row_of-Value k) → same_items xs ys ≡ true → same_items xs zs ≡ true → same_items ys zs ≡ true
  items end_of-Value end_of-Value end_of-Value e d = refl
  items (more_of-Value a p xs) (more_of-Value b q ys) (more_of-Value c r zs) e d =
      let x = and_parts (same_kind a b) (same_items xs ys) e in
      let y = and_parts (same_kind a c) (same_items xs zs) d in
      and_from (same_kind b c) (same_items ys zs) (kinds a b c x.0 y.0) (items xs ys zs x.1 y.1)
  items _ _ _ e d = absurd (cc)

  carry : {n : _} (xs : Row_of-ObjectField n) (t : Test) → IsIn (tests_of xs) t → (b c : ValueKind) → t.is_same b ≡ true → t.is_same c ≡ true → same_kind b c ≡ true
  carry end_of-ObjectField t h b c e d = absurd h
  carry (more_of-ObjectField name kind place pos rest) t (inl same) b c e d =
      kinds kind b c (subst (λ (u : Test). u.is_same b ≡ true) (sym same) e) (subst (λ (u : Test). u.is_same c ≡ true) (sym same) d)
  carry (more_of-ObjectField name kind place pos rest) t (inr h) b c e d = carry rest t h b c e d

-- ---- fields

arguments_tests : (ys : List Argument) → map test_of ys ≡ map test_at (map given_of ys)
arguments_tests [] = refl
arguments_tests (y ∷ ys) = ap (λ l. test_of y ∷ l) (arguments_tests ys)

arguments_carry : (xs : List Argument) (t : Test) → IsIn (map test_of xs) t → Carries t
arguments_carry [] t h b c e d = absurd h
arguments_carry (x ∷ xs) t (inl same) b c e d =
    kinds x.value.kind b c (subst (λ (u : Test). u.is_same b ≡ true) (sym same) e) (subst (λ (u : Test). u.is_same c ≡ true) (sym same) d)
arguments_carry (x ∷ xs) t (inr h) b c e d = arguments_carry xs t h b c e d

arguments_third : (xs ys zs : List Argument) → same_arguments xs ys ≡ true → same_arguments xs zs ≡ true → same_arguments ys zs ≡ true
arguments_third xs ys zs e d =
    ap (λ ts. are_same ts (map given_of zs)) (arguments_tests ys) ∙ same_third (map test_of xs) (map given_of ys) (map given_of zs) (arguments_carry xs) e d

pub alike_third : (k f g : Field) → are_alike k f ≡ true → are_alike k g ≡ true → are_alike f g ≡ true
alike_third k f g e d =
    let p = and_parts (bytes_eq k.name f.name) (same_arguments k.arguments f.arguments) e in
    let q = and_parts (bytes_eq k.name g.name) (same_arguments k.arguments g.arguments) d in
    and_from (bytes_eq f.name g.name) (same_arguments f.arguments g.arguments) (third k.name f.name g.name p.0 q.0) (arguments_third k.arguments f.arguments g.arguments p.1 q.1)
