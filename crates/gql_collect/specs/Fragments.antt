-- Fragments in a map by their names.
use Rattle.std.specs.Prelude.{ℕ, List, Option, Some, None, option_map}
use Rattle.std.specs.Str.{bytes_eq}
use Rattle.std.specs.Borrow.{Bor}
use Rattle.indexmap.specs.IndexMap.{IndexMap, get}
use Rattle.gql_reader.specs.declared.tree.FragmentDefinition.{FragmentDefinition}

abbrev pub Found : Type 0 → Type 0
Found S = IndexMap (List ℕ) (Bor FragmentDefinition) S

abbrev pub found : {S : Type 0} → Found S → List ℕ → Option FragmentDefinition
found m name = option_map (λ f. f.now) (get bytes_eq m name)

-- what was found before, or else this
abbrev pub or_else : {A : Type 0} → Option A → Option A → Option A
or_else (Some x) other = Some x
or_else None other = other

abbrev pub found_or : {S : Type 0} → Found S → List ℕ → Option FragmentDefinition → Option FragmentDefinition
found_or m name other = or_else (found m name) other
