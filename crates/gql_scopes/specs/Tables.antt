-- What is gathered from the nodes once, for rules that look beyond a node: rows for the definitions by their places.
use Rattle.std.specs.Prelude.{◌≡◌, ℕ, ◌+◌, ◌<◌, ◌≤◌, ◌==◌, Bool, true, false, ◌&&◌, ◌||◌, not, IsTrue, List, [], ◌∷◌}
use Rattle.std.specs.Prelude.{length, Option, Some, None, is_some, slice_get, unwrap_or, option_and_then, filter_map}
use Rattle.std.specs.Prelude.{if◌then◌else◌}
use Rattle.std.specs.List.{list_any}
use Rattle.std.specs.Str.{bytes_eq}
use Rattle.pg_base.specs.Lists.{Each}
use Rattle.gql_reader.specs.declared.tree.Definition.{Definition}
use Rattle.gql_reader.specs.declared.tree.Document.{Document}
use Rattle.gql_reader.specs.declared.tree.OperationDefinition.{OperationDefinition}
use Rattle.gql_reader.specs.declared.tree.VariableDefinition.{VariableDefinition}
use Rattle.gql_nodes.specs.Names.{is_among, place_in}
use Rattle.gql_nodes.specs.Nodes.{At, Node}
use Rattle.gql_nodes.specs.Reached.{IsClosure}
use Rattle.gql_nodes.specs.Uses.{as_fragment, as_operation, is_named, operation_at, fragment_place, spread_name, spread_names}
use Rattle.gql_nodes.specs.Uses.{used_names, nodes_within, targets, variable_in}
use Rattle.gql_scopes.specs.Conditions.{if_some}
use Rattle.gql_scopes.specs.Ranks.{HasNoCycle}
use Rattle.gql_scopes.specs.Sorts.{on_variable}

-- the row at a place, and an empty one past the end
abbrev pub row : {A : Type 0} → List (List A) → ℕ → List A
row rows place = unwrap_or (slice_get rows place) []

abbrev pub has : List ℕ → ℕ → Bool
has places place = list_any (λ other. other == place) places

pub record TablesParts : Type 0 where
  pub fragments : List (List ℕ × ℕ)
  pub variables : List (List (List ℕ × ℕ))
  pub spreads : List (List ℕ)
  pub used : List (List (List ℕ))
  pub ordered : Bool
  pub reached : List (List ℕ)

-- the variable of the operation at the place, by its name
abbrev pub found_variable : TablesParts → ℕ → OperationDefinition → List ℕ → Option VariableDefinition
found_variable tables place o name =
    option_and_then (slice_get o.variables) (place_in (row tables.variables place) name)

abbrev pub is_variable : Node → Bool
is_variable x = on_variable (λ repeated v. true) x

-- variables stand in the definition at the place
abbrev pub declares : List At → ℕ → Bool
declares nodes place = list_any (λ x. (x.within == place) && is_variable x.node) nodes

-- what the definition reaches is asked of operations, and of all definitions where these aren't ordered
abbrev pub is_asked : Document → Bool → ℕ → Bool
is_asked document ordered place = not ordered || is_some (operation_at document place)

-- the same, and of definitions in which variables stand
abbrev pub is_wanted : Document → List At → Bool → ℕ → Bool
is_wanted document nodes ordered place = is_asked document ordered place || declares nodes place

-- the mark of a place, and none past the end
abbrev pub is_marked : List Bool → ℕ → Bool
is_marked marks place = unwrap_or (slice_get marks place) false

-- Where fragments stand, and the variables of operations, by their names; the names that spreads name; what each
-- definition uses; whether it is known that spreads form no cycle; and what definitions reach, where that is wanted.
-- There is a row of the latter for each definition and for each place where nodes stand.
pub record AreTables (document : Document) (nodes : List At) (tables : TablesParts) : Type 0 where
  pub fragments : (name : List ℕ) → place_in tables.fragments name ≡ fragment_place document name
  pub variables : (place : ℕ) (o : OperationDefinition) → operation_at document place ≡ Some o → (name : List ℕ)
      → found_variable tables place o name ≡ variable_in o name
  pub spreads : (name : List ℕ) → is_among name tables.spreads ≡ is_among name (spread_names nodes)
  pub used : (place : ℕ) (name : List ℕ)
      → is_among name (row tables.used place) ≡ is_among name (used_names nodes place)
  pub ordered : IsTrue tables.ordered → HasNoCycle (targets nodes document)
  pub reached : (place : ℕ) → place < length tables.reached → IsTrue (is_wanted document nodes tables.ordered place)
      → IsClosure (place ∷ []) (targets nodes document) (row tables.reached place)
  pub rows : length document.definitions ≤ length tables.reached
  pub placed : Each (λ x. x.within < length tables.reached) nodes

-- the place of the fragment that a node spreads
abbrev pub target_of : List (List ℕ × ℕ) → At → Option ℕ
target_of fragments x = option_and_then (place_in fragments) (spread_name x.node)

-- the places of the fragments that a definition spreads
abbrev pub targets_in : List (List ℕ × ℕ) → List At → ℕ → List ℕ
targets_in fragments nodes place = filter_map (place_in fragments) (filter_map spread_name (nodes_within nodes place))

-- the place, where the definition there is the fragment with the name
abbrev pub fragment_here : Definition → ℕ → List ℕ → Option ℕ
fragment_here d place name = if is_named name (as_fragment d) then Some place else None

-- the place of the variable with the name, counted from n, of several the first
abbrev pub variable_from : ℕ → List VariableDefinition → List ℕ → Option ℕ
variable_from n [] name = None
variable_from n (v ∷ variables) name = if bytes_eq v.name name then Some n else variable_from (n + 1) variables name

-- names with places that tell the variables of the definition, where it is an operation
abbrev pub TellsVariables : Definition → List (List ℕ × ℕ) → Type 0
TellsVariables d places = (o : OperationDefinition) → as_operation d ≡ Some o → (name : List ℕ)
    → option_and_then (slice_get o.variables) (place_in places name) ≡ variable_in o name

-- some operation passes the test, which its place tells too; places are counted from n
abbrev pub any_operation : ℕ → (ℕ → OperationDefinition → Bool) → List Definition → Bool
any_operation n test [] = false
any_operation n test (d ∷ definitions) =
    if_some (test n) (as_operation d) || any_operation (n + 1) test definitions
