-- What the code compares in lists is the same as what stands in rows.
use Rattle.std.proofs.Common.{◌≡◌, Bool, ◌&&◌, ◌||◌, List, [], ◌∷◌, map, refl, sym, ap, ◌∙◌}
use Rattle.std.specs.List.{list_any, list_all}
use Rattle.std.specs.Cmp.Lexicographic.{pointwise}
use Rattle.gql_reader.specs.declared.tree.Value.{Value}
use Rattle.gql_reader.specs.declared.tree.ObjectField.{ObjectField}
use Rattle.gql_reader.specs.declared.tree.Argument.{Argument}
use Rattle.gql_reader.specs.declared.tree.ValueKind.{ValueKind}
use Rattle.gql_reader.specs.declared.tree.ValueKind.TheVariants as value_kind
use Rattle.gql_reader.specs.declared.tree.ValueKind.TheBlock.{hidden-the_row-Value-0, hidden-the_row-ObjectField-1}
use Rattle.gql_validate.specs.SameValues.{Test, Given, meets, are_same, same_kind, same_items, tests_of, given_in, test_of, given_of, same_arguments}
use Rattle.gql_validate.specs.SameLists.{same_value, is_among, has, all_are_among, all_have, same_fields, same_lists}

-- ---- lists of items

items_row : (xs ys : List Value) → same_items (hidden-the_row-Value-0 xs) (hidden-the_row-Value-0 ys) ≡ pointwise same_value xs ys
unfolding hidden-the_row-Value-0 denote.Hole.Carrier.hidden
items_row [] [] = refl
items_row [] (y ∷ ys) = refl
items_row (x ∷ xs) [] = refl
items_row (x ∷ xs) (y ∷ ys) = ap (λ b. same_kind x.kind y.kind && b) (items_row xs ys)

pub lists_same : (r : Bool) (a b : ValueKind) (xs ys left right : List Value) → a ≡ value_kind.List xs → b ≡ value_kind.List ys → left ≡ xs → right ≡ ys → r ≡ pointwise same_value left right → r ≡ same_kind a b
lists_same r a b xs ys left right p q l m h =
    h ∙ ap (λ v. pointwise same_value v right) l ∙ ap (pointwise same_value xs) m
    ∙ sym (items_row xs ys)
    ∙ ap (λ v. same_kind v (value_kind.List ys)) (sym p) ∙ ap (same_kind a) (sym q)

-- ---- named items in any order

module _ {A : Type 0} (t : A → Test) (g : A → Given) where
  abbrev same : A → A → Bool
  same x y = meets (t x) (g y)

  among : (x : A) (ys : List A) → list_any (meets (t x)) (map g ys) ≡ is_among same x ys
  among x [] = refl
  among x (y ∷ ys) = ap (λ b. same x y || b) (among x ys)

  having : (xs : List A) (y : A) → list_any (λ s. meets s (g y)) (map t xs) ≡ has same xs y
  having [] y = refl
  having (x ∷ xs) y = ap (λ b. same x y || b) (having xs y)

  all_among : (xs ys : List A) → list_all (λ s. list_any (meets s) (map g ys)) (map t xs) ≡ all_are_among same xs ys
  all_among [] ys = refl
  all_among (x ∷ xs) ys = ap (λ b. b && list_all (λ s. list_any (meets s) (map g ys)) (map t xs)) (among x ys) ∙ ap (λ b. is_among same x ys && b) (all_among xs ys)

  all_having : (xs ys : List A) → list_all (λ h. list_any (λ s. meets s h) (map t xs)) (map g ys) ≡ all_have same xs ys
  all_having xs [] = refl
  all_having xs (y ∷ ys) = ap (λ b. b && list_all (λ h. list_any (λ s. meets s h) (map t xs)) (map g ys)) (having xs y) ∙ ap (λ b. has same xs y && b) (all_having xs ys)

  pub in_lists : (xs ys : List A) → are_same (map t xs) (map g ys) ≡ (all_are_among (λ x y. meets (t x) (g y)) xs ys && all_have (λ x y. meets (t x) (g y)) xs ys)
  in_lists xs ys =
      ap (λ b. b && list_all (λ h. list_any (λ s. meets s h) (map t xs)) (map g ys)) (all_among xs ys)
      ∙ ap (λ b. all_are_among same xs ys && b) (all_having xs ys)

-- ---- fields of objects

abbrev test_in : ObjectField → Test
test_in f = record { name = f.name; is_same = λ other. same_kind f.value.kind other }

abbrev given_by : ObjectField → Given
given_by f = record { name = f.name; kind = f.value.kind }

tests_row : (xs : List ObjectField) → tests_of (hidden-the_row-ObjectField-1 xs) ≡ map test_in xs
unfolding hidden-the_row-ObjectField-1 denote.Hole.Carrier.hidden
tests_row [] = refl
tests_row (x ∷ xs) = ap (λ l. test_in x ∷ l) (tests_row xs)

given_row : (xs : List ObjectField) → given_in (hidden-the_row-ObjectField-1 xs) ≡ map given_by xs
unfolding hidden-the_row-ObjectField-1 denote.Hole.Carrier.hidden
given_row [] = refl
given_row (x ∷ xs) = ap (λ l. given_by x ∷ l) (given_row xs)

fields_row : (xs ys : List ObjectField) → are_same (tests_of (hidden-the_row-ObjectField-1 xs)) (given_in (hidden-the_row-ObjectField-1 ys)) ≡ same_fields xs ys
fields_row xs ys = ap (λ l. are_same l (given_in (hidden-the_row-ObjectField-1 ys))) (tests_row xs) ∙ ap (are_same (map test_in xs)) (given_row ys) ∙ in_lists test_in given_by xs ys

pub objects_same : (r : Bool) (a b : ValueKind) (xs ys left right : List ObjectField) → a ≡ value_kind.Object xs → b ≡ value_kind.Object ys → left ≡ xs → right ≡ ys → r ≡ same_fields left right → r ≡ same_kind a b
objects_same r a b xs ys left right p q l m h =
    h ∙ ap (λ v. same_fields v right) l ∙ ap (same_fields xs) m
    ∙ sym (fields_row xs ys)
    ∙ ap (λ v. same_kind v (value_kind.Object ys)) (sym p) ∙ ap (same_kind a) (sym q)

pub arguments_same : (xs ys : List Argument) → same_arguments xs ys ≡ same_lists xs ys
arguments_same xs ys = in_lists test_of given_of xs ys
