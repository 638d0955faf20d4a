-- Definitions by place and by name, and what stands in them: what the rules on fragments and variables share.
use Rattle.std.specs.Prelude.{◌≡◌, ℕ, ◌+◌, Bool, false, ◌==◌, if◌then◌else◌, List, [], ◌∷◌}
use Rattle.std.specs.Prelude.{Option, Some, None, filter, filter_map, find, map, option_and_then, slice_get}
use Rattle.std.specs.Str.{bytes_eq}
use Rattle.gql_reader.specs.declared.tree.ValueKind.{ValueKind, Variable, Int, Float, String, Boolean, Null, Enum}
use Rattle.gql_reader.specs.declared.tree.ValueKind.{List', Object'}
use Rattle.gql_reader.specs.declared.tree.Definition.{Definition}
use Rattle.gql_reader.specs.declared.tree.Definition.TheVariants as definition
use Rattle.gql_reader.specs.declared.tree.Document.{Document}
use Rattle.gql_reader.specs.declared.tree.FragmentDefinition.{FragmentDefinition}
use Rattle.gql_reader.specs.declared.tree.OperationDefinition.{OperationDefinition}
use Rattle.gql_reader.specs.declared.tree.VariableDefinition.{VariableDefinition}
use Rattle.gql_nodes.specs.Nodes.{Node, at_definition, at_variable, at_field, at_spread, at_inline, at_directive}
use Rattle.gql_nodes.specs.Nodes.{at_argument, at_value, at_object_field, At}
use Rattle.gql_nodes.specs.Reached.{ReachedBy}

-- ---- definitions by place and by name

abbrev pub as_fragment : Definition → Option FragmentDefinition
as_fragment (definition.Operation o) = None
as_fragment (definition.Fragment f) = Some f
as_fragment (definition.Foreign pos) = None

abbrev pub as_operation : Definition → Option OperationDefinition
as_operation (definition.Operation o) = Some o
as_operation (definition.Fragment f) = None
as_operation (definition.Foreign pos) = None

abbrev pub fragment_at : Document → ℕ → Option FragmentDefinition
fragment_at document i = option_and_then as_fragment (slice_get document.definitions i)

abbrev pub operation_at : Document → ℕ → Option OperationDefinition
operation_at document i = option_and_then as_operation (slice_get document.definitions i)

abbrev pub operations : Document → List OperationDefinition
operations document = filter_map as_operation document.definitions

abbrev pub is_named : List ℕ → Option FragmentDefinition → Bool
is_named name None = false
is_named name (Some f) = bytes_eq f.name name

abbrev pub place_from : ℕ → List Definition → List ℕ → Option ℕ
place_from i [] name = None
place_from i (d ∷ definitions) name =
    if is_named name (as_fragment d) then Some i else place_from (i + 1) definitions name

-- the place of the fragment of a name, of several the first
abbrev pub fragment_place : Document → List ℕ → Option ℕ
fragment_place document name = place_from 0 document.definitions name

abbrev pub fragment_named : Document → List ℕ → Option FragmentDefinition
fragment_named document name = option_and_then (fragment_at document) (fragment_place document name)

-- ---- what stands in a definition

abbrev pub nodes_within : List At → ℕ → List Node
nodes_within nodes i = map (λ x. x.node) (filter (λ x. x.within == i) nodes)

-- the name of the fragment that a spread spreads
abbrev pub spread_name : Node → Option (List ℕ)
spread_name (at_definition repeated d) = None
spread_name (at_variable repeated v) = None
spread_name (at_field owner parent known f) = None
spread_name (at_spread owner parent s) = Some s.name
spread_name (at_inline owner parent i) = None
spread_name (at_directive repeated location defs d) = None
spread_name (at_argument repeated defs a) = None
spread_name (at_value ty kind pos) = None
spread_name (at_object_field repeated defs name pos) = None

abbrev pub variable_name : ValueKind → Option (List ℕ)
variable_name (Variable name) = Some name
variable_name (Int text) = None
variable_name (Float text) = None
variable_name (String text) = None
variable_name (Boolean b) = None
variable_name Null = None
variable_name (Enum name) = None
variable_name (List' n items) = None
variable_name (Object' n fields) = None

-- the name of the variable that a value is
abbrev pub used_name : Node → Option (List ℕ)
used_name (at_definition repeated d) = None
used_name (at_variable repeated v) = None
used_name (at_field owner parent known f) = None
used_name (at_spread owner parent s) = None
used_name (at_inline owner parent i) = None
used_name (at_directive repeated location defs d) = None
used_name (at_argument repeated defs a) = None
used_name (at_value ty kind pos) = variable_name kind
used_name (at_object_field repeated defs name pos) = None

-- the names that spreads name
abbrev pub spread_names : List At → List (List ℕ)
spread_names nodes = filter_map (λ x. spread_name x.node) nodes

-- the variables that a definition uses
abbrev pub used_names : List At → ℕ → List (List ℕ)
used_names nodes i = filter_map used_name (nodes_within nodes i)

-- the places of the fragments that a definition spreads
abbrev pub targets : List At → Document → ℕ → List ℕ
targets nodes document i = filter_map (fragment_place document) (filter_map spread_name (nodes_within nodes i))

-- The definition at the first place is the one at the second, or spreads it, perhaps through further fragments.
abbrev pub Reaches : List At → Document → ℕ → ℕ → Type 0
Reaches nodes document i j = ReachedBy (i ∷ []) (targets nodes document) j

-- ---- variables by name

-- of several the first
abbrev pub variable_in : OperationDefinition → List ℕ → Option VariableDefinition
variable_in o name = find (λ v. bytes_eq v.name name) o.variables

-- some operation that reaches the place is one of which the fact holds
pub record ReachingOperation (nodes : List At) (document : Document) (Fact : OperationDefinition → Type 0) (j : ℕ)
    : Type 0 where
  pub place : ℕ
  pub operation : OperationDefinition
  pub stands : operation_at document place ≡ Some operation
  pub reaches : Reaches nodes document place j
  pub fact : Fact operation
