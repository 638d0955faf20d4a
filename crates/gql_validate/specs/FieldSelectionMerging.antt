-- Field selection merging (5.3.2). Nodes are named by their places in the list of nodes, a selection set by the place
-- of the node that has it.
use Rattle.std.specs.Prelude.{◌<◌, ℕ, ◌+◌, nat_lt, ◌==◌, Bool, false, ◌&&◌, not, if◌then◌else◌}
use Rattle.std.specs.Prelude.{List, [], ◌∷◌, ◌++◌, length, Option, Some, None, unwrap_or, slice_get, IsTrue}
use Rattle.std.specs.Str.{bytes_eq}
use Rattle.gql_reader.specs.declared.tree.Field.{Field}
use Rattle.gql_reader.specs.declared.tree.Definition.{Definition}
use Rattle.gql_reader.specs.declared.tree.Definition.TheVariants as definition
use Rattle.gql_nodes.specs.Nodes.{Node, at_definition, at_variable, at_field, at_spread, at_inline, at_directive}
use Rattle.gql_nodes.specs.Nodes.{at_argument, at_value, at_object_field, At}
use Rattle.gql_nodes.specs.Sorts.{on_definition}
use Rattle.gql_nodes.specs.Reached.{IsIn, ReachedBy}
use Rattle.gql_validate.specs.SameValues.{same_arguments}

-- ---- what stands in a selection set

abbrev pub is_fragment : List ℕ → Definition → Bool
is_fragment name (definition.Operation o) = false
is_fragment name (definition.Fragment f) = bytes_eq f.name name
is_fragment name (definition.Foreign pos) = false

abbrev pub fragment_from : ℕ → List At → List ℕ → Option ℕ
fragment_from place [] name = None
fragment_from place (x ∷ rest) name =
    if on_definition (λ repeated d. is_fragment name d) x.node then Some place else fragment_from (place + 1) rest name

-- the place of the fragment of a name, of several the first
abbrev pub fragment_node : List At → List ℕ → Option ℕ
fragment_node nodes name = fragment_from 0 nodes name

abbrev pub these : Option ℕ → List ℕ
these None = []
these (Some place) = place ∷ []

-- the place of a node, if it is a field that stands in the set
abbrev pub field_in : ℕ → ℕ → Node → List ℕ
field_in set place (at_definition repeated d) = []
field_in set place (at_variable repeated v) = []
field_in set place (at_field owner parent known f) = if owner == set then place ∷ [] else []
field_in set place (at_spread owner parent s) = []
field_in set place (at_inline owner parent i) = []
field_in set place (at_directive repeated at defs d) = []
field_in set place (at_argument repeated defs a) = []
field_in set place (at_value ty kind pos) = []
field_in set place (at_object_field repeated defs name pos) = []

-- the selection set of a fragment, if the node is one that stands in the set or is spread there
abbrev pub set_in : List At → ℕ → ℕ → Node → List ℕ
set_in nodes set place (at_definition repeated d) = []
set_in nodes set place (at_variable repeated v) = []
set_in nodes set place (at_field owner parent known f) = []
set_in nodes set place (at_spread owner parent s) = if owner == set then these (fragment_node nodes s.name) else []
set_in nodes set place (at_inline owner parent i) = if owner == set then place ∷ [] else []
set_in nodes set place (at_directive repeated at defs d) = []
set_in nodes set place (at_argument repeated defs a) = []
set_in nodes set place (at_value ty kind pos) = []
set_in nodes set place (at_object_field repeated defs name pos) = []

abbrev pub fields_from : ℕ → List At → ℕ → List ℕ
fields_from place [] set = []
fields_from place (x ∷ rest) set = field_in set place x.node ++ fields_from (place + 1) rest set

abbrev pub sets_from : List At → ℕ → List At → ℕ → List ℕ
sets_from nodes place [] set = []
sets_from nodes place (x ∷ rest) set = set_in nodes set place x.node ++ sets_from nodes (place + 1) rest set

-- the fields that stand in a set; past the end of the list there are no sets
abbrev pub fields_of : List At → ℕ → List ℕ
fields_of nodes set = if nat_lt set (length nodes) then fields_from 0 nodes set else []

-- the sets of the fragments that stand in a set
abbrev pub sets_of : List At → ℕ → List ℕ
sets_of nodes set = if nat_lt set (length nodes) then sets_from nodes 0 nodes set else []

-- A field of joined selection sets, their fragments entered. That a field is there has a finite reason, in which no
-- fragment need be entered within itself.
pub record IsFieldOf (nodes : List At) (joined : List ℕ) (f : ℕ) : Type 0 where
  pub set : ℕ
  pub entered : ReachedBy joined (sets_of nodes) set
  pub stands : IsIn (fields_of nodes set) f

-- ---- pairs

-- a field on its parent type
pub record FieldOn : Type 0 where
  pub parent : ℕ
  pub field : Field

abbrev pub with_parent : Option ℕ → Field → Option FieldOn
with_parent None f = None
with_parent (Some parent) f = Some (record { parent = parent; field = f })

abbrev pub field_on : Node → Option FieldOn
field_on (at_definition repeated d) = None
field_on (at_variable repeated v) = None
field_on (at_field owner parent known f) = with_parent parent f
field_on (at_spread owner parent s) = None
field_on (at_inline owner parent i) = None
field_on (at_directive repeated at defs d) = None
field_on (at_argument repeated defs a) = None
field_on (at_value ty kind pos) = None
field_on (at_object_field repeated defs name pos) = None

abbrev pub field_here : Option At → Option FieldOn
field_here None = None
field_here (Some x) = field_on x.node

-- the field at a place, if there is one on a known parent type
abbrev pub field_at : List At → ℕ → Option FieldOn
field_at nodes place = field_here (slice_get nodes place)

abbrev pub response_key : Field → List ℕ
response_key f = unwrap_or f.alias f.name

abbrev pub both : (FieldOn → FieldOn → Bool) → Option FieldOn → Option FieldOn → Bool
both test None g = false
both test (Some f) None = false
both test (Some f) (Some g) = test f g

-- one response key, on one parent type
abbrev pub share_key : FieldOn → FieldOn → Bool
share_key f g = f.parent == g.parent && bytes_eq (response_key f.field) (response_key g.field)

abbrev pub are_alike : Field → Field → Bool
are_alike f g = bytes_eq f.name g.name && same_arguments f.arguments g.arguments

-- another name, or other arguments
abbrev pub are_unlike : FieldOn → FieldOn → Bool
are_unlike f g = not (are_alike f.field g.field)

-- the two fields have one response key on one parent type, and the second stands later
abbrev pub meet : List At → ℕ → ℕ → Bool
meet nodes f g = nat_lt f g && both share_key (field_at nodes f) (field_at nodes g)

abbrev pub differ : List At → ℕ → ℕ → Bool
differ nodes f g = both are_unlike (field_at nodes f) (field_at nodes g)

pub record IsPair (nodes : List At) (joined : List ℕ) (f g : ℕ) : Type 0 where
  pub first : IsFieldOf nodes joined f
  pub second : IsFieldOf nodes joined g
  pub meet : IsTrue (meet nodes f g)

-- the selection sets of two fields, joined
abbrev pub below : ℕ → ℕ → List ℕ
below f g = f ∷ g ∷ []

-- A pair can't merge: the two differ, or a pair in their joined selection sets can't.
pub data CannotMerge (nodes : List At) : List ℕ → ℕ → ℕ → Type 0 where
  they_differ : {joined : List ℕ} {f g : ℕ} → IsPair nodes joined f g → IsTrue (differ nodes f g)
      → CannotMerge nodes joined f g
  below_them : {joined : List ℕ} {f g : ℕ} (h k : ℕ) → IsPair nodes joined f g → CannotMerge nodes (below f g) h k
      → CannotMerge nodes joined f g

-- ---- the rule

-- selection sets that the rule speaks of: each one of the document, and those of a pair, joined
pub data AreJoined (nodes : List At) : List ℕ → Type 0 where
  alone : (set : ℕ) → set < length nodes → AreJoined nodes (set ∷ [])
  of_pair : {f g : ℕ} (joined : List ℕ) → AreJoined nodes joined → IsPair nodes joined f g → AreJoined nodes (below f g)

-- Any two fields of joined selection sets can merge: the node is the later one of a pair that can't.
pub record Breaks (nodes : List At) (place : ℕ) : Type 0 where
  pub joined : List ℕ
  pub are_joined : AreJoined nodes joined
  pub first : ℕ
  pub cannot : CannotMerge nodes joined first place
