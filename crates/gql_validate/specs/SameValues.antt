-- Values and arguments that are the same: numbers and names by spelling, strings by content, lists item by item,
-- objects and arguments in any order.
use Rattle.std.specs.Prelude.{ℕ, Bool, true, false, ◌&&◌, List, [], ◌∷◌, map}
use Rattle.std.specs.Str.{bytes_eq}
use Rattle.std.specs.Bool.{beq}
use Rattle.std.specs.List.{list_any, list_all}
use Rattle.gql_reader.specs.declared.tree.ValueKind.{ValueKind, Variable, Int, Float, String, Boolean, Null, Enum}
use Rattle.gql_reader.specs.declared.tree.ValueKind.{List', Object', Row_of-Value, end_of-Value, more_of-Value}
use Rattle.gql_reader.specs.declared.tree.ValueKind.{Row_of-ObjectField, end_of-ObjectField, more_of-ObjectField}
use Rattle.gql_reader.specs.declared.tree.Argument.{Argument}

-- a name, and whether a value is the one that it has
pub record Test : Type 0 where
  pub name : List ℕ
  pub is_same : ValueKind → Bool

-- a name, and the value that it has
pub record Given : Type 0 where
  pub name : List ℕ
  pub kind : ValueKind

abbrev pub meets : Test → Given → Bool
meets t g = bytes_eq t.name g.name && t.is_same g.kind

-- each of either is among the other
abbrev pub are_same : List Test → List Given → Bool
are_same tests given =
    list_all (λ t. list_any (meets t) given) tests && list_all (λ g. list_any (λ t. meets t g) tests) given

abbrev pub given_in : {n : _} → Row_of-ObjectField n → List Given
given_in end_of-ObjectField = []
given_in (more_of-ObjectField name kind place pos rest) = record { name = name; kind = kind } ∷ given_in rest

abbrev mutual
  pub same_kind : ValueKind → ValueKind → Bool
  same_kind (Variable s) (Variable t) = bytes_eq s t
  same_kind (Int s) (Int t) = bytes_eq s t
  same_kind (Float s) (Float t) = bytes_eq s t
  same_kind (String s) (String t) = bytes_eq s t
  same_kind (Boolean a) (Boolean b) = beq a b
  same_kind Null Null = true
  same_kind (Enum s) (Enum t) = bytes_eq s t
  same_kind (List' _ xs) (List' _ ys) = same_items xs ys
  same_kind (Object' _ xs) (Object' _ ys) = are_same (tests_of xs) (given_in ys)
  same_kind _ _ = false

  pub same_items : {m : _} {n : _} → Row_of-Value m → Row_of-Value n → Bool
  same_items end_of-Value end_of-Value = true
  same_items (more_of-Value a p xs) (more_of-Value b q ys) = same_kind a b && same_items xs ys
  same_items _ _ = false

  pub tests_of : {n : _} → Row_of-ObjectField n → List Test
  tests_of end_of-ObjectField = []
  tests_of (more_of-ObjectField name kind place pos rest) =
      record { name = name; is_same = λ other. same_kind kind other } ∷ tests_of rest

abbrev pub test_of : Argument → Test
test_of a = record { name = a.name; is_same = λ other. same_kind a.value.kind other }

abbrev pub given_of : Argument → Given
given_of a = record { name = a.name; kind = a.value.kind }

abbrev pub same_arguments : List Argument → List Argument → Bool
same_arguments xs ys = are_same (map test_of xs) (map given_of ys)
