-- The nodes of a document in document order, each with what the rules of validation ask of its surroundings.
use Rattle.std.specs.Prelude.{ℕ, ◌+◌, Bool, List, [], ◌∷◌, ◌++◌, length, Option, Some, None, option_and_then}
use Rattle.pg_base.specs.declared.pos.Pos.{Pos}
use Rattle.pg_base.specs.declared.schema.ArgDef.{ArgDef}
use Rattle.pg_base.specs.Schema.{SchemaParts}
use Rattle.gql_reader.specs.declared.tree.ValueKind.{ValueKind, Variable, Int, Float, String, Boolean, Null, Enum}
use Rattle.gql_reader.specs.declared.tree.ValueKind.{List', Object', Row_of-Value, end_of-Value, more_of-Value}
use Rattle.gql_reader.specs.declared.tree.ValueKind.{Row_of-ObjectField, end_of-ObjectField, more_of-ObjectField}
use Rattle.gql_reader.specs.declared.tree.Value as tree_value
use Rattle.gql_reader.specs.declared.tree.Argument.{Argument}
use Rattle.gql_reader.specs.declared.tree.Directive.{Directive}
use Rattle.gql_reader.specs.declared.tree.VariableDefinition.{VariableDefinition}
use Rattle.gql_reader.specs.declared.tree.Selection.{Selection, Field', FragmentSpread, InlineFragment'}
use Rattle.gql_reader.specs.declared.tree.Selection.{Row_of-Selection, end_of-Selection, more_of-Selection}
use Rattle.gql_reader.specs.declared.tree.Field.{Field}
use Rattle.gql_reader.specs.declared.tree.InlineFragment as tree_inline
use Rattle.gql_reader.specs.declared.tree.FragmentSpread as tree_spread
use Rattle.gql_reader.specs.declared.tree.Definition.{Definition}
use Rattle.gql_reader.specs.declared.tree.Definition.TheVariants as definition
use Rattle.gql_reader.specs.declared.tree.OperationDefinition.{OperationDefinition}
use Rattle.gql_reader.specs.declared.tree.FragmentDefinition.{FragmentDefinition}
use Rattle.gql_reader.specs.declared.tree.Document.{Document}
use Rattle.gql_types.specs.Types.{Ty, object_named, ty_written, item_of, inputs_at, expected}
use Rattle.gql_nodes.specs.declared.node.Location.{Location}
use Rattle.gql_nodes.specs.declared.node.Location.TheVariants as location
use Rattle.gql_nodes.specs.Names.{is_among, with_name, is_repeated, with_taken, operation_name, fragment_name}
use Rattle.gql_nodes.specs.Fields.{Known, root_of, within_condition, field_of, below, args_of}
use Rattle.gql_nodes.specs.Fields.{directive_args}

-- A test comes first that tells whether a sibling before the node has its name. The owner of a selection is the place
-- in the list of the node in whose selection set it stands. A parent type, the field that the parent type has by the
-- name, the arguments or input fields that may stand there, and an expected type are none where they aren't known.
pub data Node : Type 0 where
  at_definition : Bool → Definition → Node
  at_variable : Bool → VariableDefinition → Node
  at_field : ℕ → Option ℕ → Option Known → Field → Node
  at_spread : ℕ → Option ℕ → tree_spread.FragmentSpread → Node
  at_inline : ℕ → Option ℕ → tree_inline.InlineFragment → Node
  at_directive : Bool → Location → Option (List ArgDef) → Directive → Node
  at_argument : Bool → Option (List ArgDef) → Argument → Node
  at_value : Option Ty → ValueKind → Pos → Node
  at_object_field : Bool → Option (List ArgDef) → List ℕ → Pos → Node

-- a node, and the place in the document of the definition in which it stands
pub record At : Type 0 where
  pub within : ℕ
  pub node : Node

-- one node more
abbrev pub put : ℕ → Node → List At → List At
put within x list = list ++ record { within = within; node = x } ∷ []

-- Each of what follows gives a list with the nodes of a part after the nodes that it has.

-- ---- values

abbrev mutual
  pub put_value : SchemaParts → ℕ → Option Ty → ValueKind → Pos → List At → List At
  put_value schema within ty (Variable name) pos list = put within (at_value ty (Variable name) pos) list
  put_value schema within ty (Int text) pos list = put within (at_value ty (Int text) pos) list
  put_value schema within ty (Float text) pos list = put within (at_value ty (Float text) pos) list
  put_value schema within ty (String text) pos list = put within (at_value ty (String text) pos) list
  put_value schema within ty (Boolean b) pos list = put within (at_value ty (Boolean b) pos) list
  put_value schema within ty Null pos list = put within (at_value ty Null pos) list
  put_value schema within ty (Enum name) pos list = put within (at_value ty (Enum name) pos) list
  put_value schema within ty (List' n items) pos list =
      put_items schema within (option_and_then item_of ty) items (put within (at_value ty (List' n items) pos) list)
  put_value schema within ty (Object' n fields) pos list =
      put_object_fields schema within [] (inputs_at schema ty) fields
      (put within (at_value ty (Object' n fields) pos) list)

  pub put_items : {n : _} → SchemaParts → ℕ → Option Ty → Row_of-Value n → List At → List At
  put_items schema within ty end_of-Value list = list
  put_items schema within ty (more_of-Value kind pos rest) list =
      put_items schema within ty rest (put_value schema within ty kind pos list)

  pub put_object_fields : {n : _} → SchemaParts → ℕ → List (List ℕ) → Option (List ArgDef) → Row_of-ObjectField n
      → List At → List At
  put_object_fields schema within before defs end_of-ObjectField list = list
  put_object_fields schema within before defs (more_of-ObjectField name kind place pos rest) list =
      put_object_fields schema within (with_name before name) defs rest
      (put_value schema within (expected defs name) kind place
      (put within (at_object_field (is_among name before) defs name pos) list))

-- ---- arguments and directives

abbrev pub put_argument : SchemaParts → ℕ → Bool → Option (List ArgDef) → Argument → List At → List At
put_argument schema within repeated defs a list =
    put_value schema within (expected defs a.name) a.value.kind a.value.pos
    (put within (at_argument repeated defs a) list)

abbrev pub put_arguments : SchemaParts → ℕ → List (List ℕ) → Option (List ArgDef) → List Argument → List At → List At
put_arguments schema within before defs [] list = list
put_arguments schema within before defs (a ∷ arguments) list =
    put_arguments schema within (with_name before a.name) defs arguments
    (put_argument schema within (is_among a.name before) defs a list)

abbrev pub put_directive : SchemaParts → ℕ → Bool → Location → Directive → List At → List At
put_directive schema within repeated at d list =
    put_arguments schema within [] (directive_args d.name) d.arguments
    (put within (at_directive repeated at (directive_args d.name) d) list)

abbrev pub put_directives : SchemaParts → ℕ → List (List ℕ) → Location → List Directive → List At → List At
put_directives schema within before at [] list = list
put_directives schema within before at (d ∷ directives) list =
    put_directives schema within (with_name before d.name) at directives
    (put_directive schema within (is_among d.name before) at d list)

-- ---- selections

abbrev pub selection_list : {n : _} → Row_of-Selection n → List Selection
selection_list end_of-Selection = []
selection_list (more_of-Selection s rest) = s ∷ selection_list rest

-- what stands in a field before its selections
abbrev pub put_field_head : SchemaParts → ℕ → ℕ → Option ℕ → Option Known → Field → List At → List At
put_field_head schema within owner parent known f list =
    put_directives schema within [] location.Field f.directives
    (put_arguments schema within [] (args_of known) f.arguments
    (put within (at_field owner parent known f) list))

abbrev pub put_spread : SchemaParts → ℕ → ℕ → Option ℕ → tree_spread.FragmentSpread → List At → List At
put_spread schema within owner parent s list =
    put_directives schema within [] location.FragmentSpread s.directives (put within (at_spread owner parent s) list)

abbrev pub put_inline_head : SchemaParts → ℕ → ℕ → Option ℕ → tree_inline.InlineFragment → List At → List At
put_inline_head schema within owner parent i list =
    put_directives schema within [] location.InlineFragment i.directives (put within (at_inline owner parent i) list)

abbrev mutual
  pub put_selection : SchemaParts → ℕ → ℕ → Option ℕ → Selection → List At → List At
  put_selection schema within owner parent (Field' alias name arguments directives n rows pos) list =
      put_rows schema within (length list) (below schema (field_of schema parent name)) rows
      (put_field_head schema within owner parent (field_of schema parent name) (record {
        alias = alias;
        name = name;
        arguments = arguments;
        directives = directives;
        selections = selection_list rows;
        pos = pos;
      }) list)
  put_selection schema within owner parent (FragmentSpread s) list = put_spread schema within owner parent s list
  put_selection schema within owner parent (InlineFragment' on directives n rows pos) list =
      put_rows schema within (length list) (within_condition schema parent on) rows
      (put_inline_head schema within owner parent (record {
        type_condition = on;
        directives = directives;
        selections = selection_list rows;
        pos = pos;
      }) list)

  pub put_rows : {n : _} → SchemaParts → ℕ → ℕ → Option ℕ → Row_of-Selection n → List At → List At
  put_rows schema within owner parent end_of-Selection list = list
  put_rows schema within owner parent (more_of-Selection s rest) list =
      put_rows schema within owner parent rest (put_selection schema within owner parent s list)

-- the same of a list
abbrev pub put_selections : SchemaParts → ℕ → ℕ → Option ℕ → List Selection → List At → List At
put_selections schema within owner parent [] list = list
put_selections schema within owner parent (s ∷ selections) list =
    put_selections schema within owner parent selections (put_selection schema within owner parent s list)

-- ---- definitions

abbrev pub put_default : SchemaParts → ℕ → Option Ty → Option tree_value.Value → List At → List At
put_default schema within ty None list = list
put_default schema within ty (Some v) list = put_value schema within ty v.kind v.pos list

abbrev pub put_variable : SchemaParts → ℕ → Bool → VariableDefinition → List At → List At
put_variable schema within repeated v list =
    put_directives schema within [] location.Other v.directives
    (put_default schema within (ty_written schema v.ty) v.default (put within (at_variable repeated v) list))

abbrev pub put_variables : SchemaParts → ℕ → List (List ℕ) → List VariableDefinition → List At → List At
put_variables schema within before [] list = list
put_variables schema within before (v ∷ variables) list =
    put_variables schema within (with_name before v.name) variables
    (put_variable schema within (is_among v.name before) v list)

-- what stands in a definition, which is at the place in the list
abbrev pub put_operation : SchemaParts → ℕ → ℕ → OperationDefinition → List At → List At
put_operation schema within place o list =
    put_selections schema within place (root_of schema o.kind) o.selections
    (put_directives schema within [] location.Other o.directives
    (put_variables schema within [] o.variables list))

abbrev pub put_fragment : SchemaParts → ℕ → ℕ → FragmentDefinition → List At → List At
put_fragment schema within place f list =
    put_selections schema within place (object_named schema f.type_condition) f.selections
    (put_directives schema within [] location.Other f.directives list)

abbrev pub put_parts : SchemaParts → ℕ → ℕ → Definition → List At → List At
put_parts schema within place (definition.Operation o) list = put_operation schema within place o list
put_parts schema within place (definition.Fragment f) list = put_fragment schema within place f list
put_parts schema within place (definition.Foreign pos) list = list

abbrev pub put_definition : SchemaParts → ℕ → Bool → Definition → List At → List At
put_definition schema within repeated d list =
    put_parts schema within (length list) d (put within (at_definition repeated d) list)

-- after operations and fragments of these names
abbrev pub put_definitions : SchemaParts → ℕ → List (List ℕ) → List (List ℕ) → List Definition → List At → List At
put_definitions schema within operations fragments [] list = list
put_definitions schema within operations fragments (d ∷ definitions) list =
    put_definitions schema (within + 1) (with_taken operations (operation_name d))
    (with_taken fragments (fragment_name d)) definitions
    (put_definition schema within (is_repeated operations fragments d) d list)

-- the nodes of a document in document order
abbrev pub nodes : SchemaParts → Document → List At
nodes schema document = put_definitions schema 0 [] [] document.definitions []

-- ---- where they stand

abbrev pub definition_pos : Definition → Pos
definition_pos (definition.Operation o) = o.pos
definition_pos (definition.Fragment f) = f.pos
definition_pos (definition.Foreign pos) = pos

abbrev pub pos_of : Node → Pos
pos_of (at_definition repeated d) = definition_pos d
pos_of (at_variable repeated v) = v.pos
pos_of (at_field owner parent known f) = f.pos
pos_of (at_spread owner parent s) = s.pos
pos_of (at_inline owner parent i) = i.pos
pos_of (at_directive repeated at defs d) = d.pos
pos_of (at_argument repeated defs a) = a.pos
pos_of (at_value ty kind pos) = pos
pos_of (at_object_field repeated defs name pos) = pos
