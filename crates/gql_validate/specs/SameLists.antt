-- The same of lists, as the code compares them.
use Rattle.std.specs.Prelude.{Bool, true, false, ◌&&◌, ◌||◌, List, [], ◌∷◌}
use Rattle.std.specs.Str.{bytes_eq}
use Rattle.gql_reader.specs.declared.tree.Value.{Value}
use Rattle.gql_reader.specs.declared.tree.ObjectField.{ObjectField}
use Rattle.gql_reader.specs.declared.tree.Argument.{Argument}
use Rattle.gql_validate.specs.SameValues.{same_kind}

abbrev pub same_value : Value → Value → Bool
same_value a b = same_kind a.kind b.kind

abbrev pub same_field : ObjectField → ObjectField → Bool
same_field x y = bytes_eq x.name y.name && same_kind x.value.kind y.value.kind

abbrev pub same_argument : Argument → Argument → Bool
same_argument x y = bytes_eq x.name y.name && same_kind x.value.kind y.value.kind

abbrev pub is_among : {A : Type 0} → (A → A → Bool) → A → List A → Bool
is_among same x [] = false
is_among same x (y ∷ ys) = same x y || is_among same x ys

abbrev pub has : {A : Type 0} → (A → A → Bool) → List A → A → Bool
has same [] y = false
has same (x ∷ xs) y = same x y || has same xs y

abbrev pub all_are_among : {A : Type 0} → (A → A → Bool) → List A → List A → Bool
all_are_among same [] ys = true
all_are_among same (x ∷ xs) ys = is_among same x ys && all_are_among same xs ys

abbrev pub all_have : {A : Type 0} → (A → A → Bool) → List A → List A → Bool
all_have same xs [] = true
all_have same xs (y ∷ ys) = has same xs y && all_have same xs ys

abbrev pub same_fields : List ObjectField → List ObjectField → Bool
same_fields xs ys = all_are_among same_field xs ys && all_have same_field xs ys

abbrev pub same_lists : List Argument → List Argument → Bool
same_lists xs ys = all_are_among same_argument xs ys && all_have same_argument xs ys
