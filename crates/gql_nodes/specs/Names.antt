-- Names that stand before something among its siblings.
use Rattle.std.specs.Prelude.{ℕ, Bool, false, ◌||◌, if◌then◌else◌, List, [], ◌∷◌, ◌++◌, Option, Some, None}
use Rattle.std.specs.Str.{bytes_eq}
use Rattle.std.specs.List.{list_any}
use Rattle.std.specs.Map.{lookup}
use Rattle.indexmap.specs.IndexMap.{insert_entry}
use Rattle.gql_reader.specs.declared.tree.Definition.{Definition}
use Rattle.gql_reader.specs.declared.tree.Definition.TheVariants as definition

-- the name is one of these
abbrev pub is_among : List ℕ → List (List ℕ) → Bool
is_among name names = list_any (bytes_eq name) names

-- these names and one more, each once
abbrev pub with_name : List (List ℕ) → List ℕ → List (List ℕ)
with_name names name = if is_among name names then names else names ++ name ∷ []

abbrev pub is_taken : Option (List ℕ) → List (List ℕ) → Bool
is_taken None names = false
is_taken (Some name) names = is_among name names

abbrev pub with_taken : List (List ℕ) → Option (List ℕ) → List (List ℕ)
with_taken names None = names
with_taken names (Some name) = with_name names name

-- ---- names of definitions, by their sort

abbrev pub operation_name : Definition → Option (List ℕ)
operation_name (definition.Operation o) = o.name
operation_name (definition.Fragment f) = None
operation_name (definition.Foreign pos) = None

abbrev pub fragment_name : Definition → Option (List ℕ)
fragment_name (definition.Operation o) = None
fragment_name (definition.Fragment f) = Some f.name
fragment_name (definition.Foreign pos) = None

-- an operation with the name of an earlier operation, or a fragment with that of an earlier fragment
abbrev pub is_repeated : List (List ℕ) → List (List ℕ) → Definition → Bool
is_repeated operations fragments d =
    is_taken (operation_name d) operations || is_taken (fragment_name d) fragments

-- ---- places by name

-- the place of the name
abbrev pub place_in : List (List ℕ × ℕ) → List ℕ → Option ℕ
place_in places name = lookup (bytes_eq name) places

-- with the name's place set
abbrev pub with_place : List (List ℕ × ℕ) → List ℕ → ℕ → List (List ℕ × ℕ)
with_place places name place = insert_entry bytes_eq places name place

abbrev pub first_of : Option ℕ → Option ℕ → Option ℕ
first_of None other = other
first_of (Some place) other = Some place

-- the place, where the names are the same
abbrev pub when_named : List ℕ → List ℕ → ℕ → Option ℕ
when_named other name place = if bytes_eq other name then Some place else None
