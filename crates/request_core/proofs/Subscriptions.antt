-- No operation of a valid document is a subscription: each definition is a node, and one of these has no root type.
use Rattle.std.proofs.Common.{◌≡◌, ℕ, zero, suc, ◌+◌, Bool, true, List, [], ◌∷◌, ◌++◌, length, Option, Some, None, refl, sym, ap, ◌∙◌, subst}
use Rattle.std.specs.Prelude.{slice_get, IsTrue, is_none, option_and_then}
use Rattle.pg_base.specs.declared.pos.Pos.{Pos}
use Rattle.pg_base.specs.declared.schema.ArgDef.{ArgDef}
use Rattle.pg_base.specs.Schema.{SchemaParts}
use Rattle.gql_reader.specs.declared.tree.ValueKind.{ValueKind, Variable, Int, Float, String, Boolean, Null, Enum}
use Rattle.gql_reader.specs.declared.tree.ValueKind.{List', Object', Row_of-Value, end_of-Value, more_of-Value}
use Rattle.gql_reader.specs.declared.tree.ValueKind.{Row_of-ObjectField, end_of-ObjectField, more_of-ObjectField}
use Rattle.gql_reader.specs.declared.tree.Value as tree_value
use Rattle.gql_reader.specs.declared.tree.Argument.{Argument}
use Rattle.gql_reader.specs.declared.tree.Directive.{Directive}
use Rattle.gql_reader.specs.declared.tree.VariableDefinition.{VariableDefinition}
use Rattle.gql_reader.specs.declared.tree.Selection.{Selection, Field', FragmentSpread, InlineFragment'}
use Rattle.gql_reader.specs.declared.tree.Selection.{Row_of-Selection, end_of-Selection, more_of-Selection}
use Rattle.gql_reader.specs.declared.tree.Definition.{Definition}
use Rattle.gql_reader.specs.declared.tree.Definition.TheVariants as definition
use Rattle.gql_reader.specs.declared.tree.Document.{Document}
use Rattle.gql_reader.specs.declared.tree.OperationDefinition.{OperationDefinition}
use Rattle.gql_reader.specs.declared.tree.OperationKind.{OperationKind}
use Rattle.gql_reader.specs.declared.tree.OperationKind.TheVariants as kind
use Rattle.gql_types.specs.Types.{Ty, ty_written, item_of, inputs_at, expected, object_named}
use Rattle.gql_nodes.specs.declared.node.Location.{Location}
use Rattle.gql_nodes.specs.declared.node.Location.TheVariants as location
use Rattle.gql_nodes.specs.Names.{is_among, with_name, is_repeated, with_taken, operation_name, fragment_name}
use Rattle.gql_nodes.specs.Fields.{root_of, directive_args, field_of, below, within_condition, args_of}
use Rattle.gql_nodes.specs.Nodes as n
use Rattle.gql_nodes.specs.Nodes.{Node, At, at_definition, nodes}
use Rattle.gql_validate.specs.declared.rule.ShapeRule.TheVariants as rule
use Rattle.gql_validate.specs.SingleRootField.{breaks}
use Rattle.gql_rules.specs.Rules.{IsValidDocument, on_shapes}

-- ---- a list that goes on keeps its items

abbrev Stays : List At → List At → Type 0
Stays list more = (i : ℕ) (x : At) → slice_get list i ≡ Some x → slice_get more i ≡ Some x

stays_append : (list more : List At) → Stays list (list ++ more)
stays_append [] more i x e = cc
stays_append (y ∷ list) more zero x e = e
stays_append (y ∷ list) more (suc i) x e = stays_append list more i x e

stays_put : (within : ℕ) (node : Node) (list : List At) → Stays list (n.put within node list)
stays_put within node list = stays_append list (record { within = within; node = node } ∷ [])

module _ (schema : SchemaParts) (within : ℕ) where
  mutual
    value_stays : (ty : Option Ty) (k : ValueKind) (pos : Pos) (list : List At) → Stays list (n.put_value schema within ty k pos list)
    value_stays ty (Variable name) pos list i x e = stays_put within _ list i x e
    value_stays ty (Int text) pos list i x e = stays_put within _ list i x e
    value_stays ty (Float text) pos list i x e = stays_put within _ list i x e
    value_stays ty (String text) pos list i x e = stays_put within _ list i x e
    value_stays ty (Boolean b) pos list i x e = stays_put within _ list i x e
    value_stays ty Null pos list i x e = stays_put within _ list i x e
    value_stays ty (Enum name) pos list i x e = stays_put within _ list i x e
    value_stays ty (List' m items) pos list i x e = items_stay (option_and_then item_of ty) items _ i x (stays_put within _ list i x e)
    value_stays ty (Object' m fields) pos list i x e = fields_stay [] (inputs_at schema ty) fields _ i x (stays_put within _ list i x e)

    items_stay : {m : _} (ty : Option Ty) (items : Row_of-Value m) (list : List At) → Stays list (n.put_items schema within ty items list)
    items_stay ty end_of-Value list i x e = e
    items_stay ty (more_of-Value k pos rest) list i x e = items_stay ty rest _ i x (value_stays ty k pos list i x e)

    fields_stay : {m : _} (before : List (List ℕ)) (defs : Option (List ArgDef)) (fields : Row_of-ObjectField m) (list : List At) → Stays list (n.put_object_fields schema within before defs fields list)
    fields_stay before defs end_of-ObjectField list i x e = e
    fields_stay before defs (more_of-ObjectField name k place pos rest) list i x e =
        fields_stay (with_name before name) defs rest _ i x (value_stays (expected defs name) k place _ i x (stays_put within _ list i x e))

  arguments_stay : (before : List (List ℕ)) (defs : Option (List ArgDef)) (given : List Argument) (list : List At) → Stays list (n.put_arguments schema within before defs given list)
  arguments_stay before defs [] list i x e = e
  arguments_stay before defs (a ∷ given) list i x e =
      arguments_stay (with_name before a.name) defs given _ i x (value_stays (expected defs a.name) a.value.kind a.value.pos _ i x (stays_put within _ list i x e))

  directives_stay : (before : List (List ℕ)) (at : Location) (ds : List Directive) (list : List At) → Stays list (n.put_directives schema within before at ds list)
  directives_stay before at [] list i x e = e
  directives_stay before at (d ∷ ds) list i x e =
      directives_stay (with_name before d.name) at ds _ i x (arguments_stay [] (directive_args d.name) d.arguments _ i x (stays_put within _ list i x e))

  mutual
    selection_stays : (owner : ℕ) (parent : Option ℕ) (s : Selection) (list : List At) → Stays list (n.put_selection schema within owner parent s list)
    selection_stays owner parent (Field' alias name arguments directives m rows pos) list i x e =
        rows_stay (length list) (below schema (field_of schema parent name)) rows _ i x
        (directives_stay [] location.Field directives _ i x (arguments_stay [] (args_of (field_of schema parent name)) arguments _ i x (stays_put within _ list i x e)))
    selection_stays owner parent (FragmentSpread s) list i x e = directives_stay [] location.FragmentSpread s.directives _ i x (stays_put within _ list i x e)
    selection_stays owner parent (InlineFragment' on directives m rows pos) list i x e =
        rows_stay (length list) (within_condition schema parent on) rows _ i x (directives_stay [] location.InlineFragment directives _ i x (stays_put within _ list i x e))

    rows_stay : {m : _} (owner : ℕ) (parent : Option ℕ) (rows : Row_of-Selection m) (list : List At) → Stays list (n.put_rows schema within owner parent rows list)
    rows_stay owner parent end_of-Selection list i x e = e
    rows_stay owner parent (more_of-Selection s rest) list i x e = rows_stay owner parent rest _ i x (selection_stays owner parent s list i x e)

  selections_stay : (owner : ℕ) (parent : Option ℕ) (ss : List Selection) (list : List At) → Stays list (n.put_selections schema within owner parent ss list)
  selections_stay owner parent [] list i x e = e
  selections_stay owner parent (s ∷ ss) list i x e = selections_stay owner parent ss _ i x (selection_stays owner parent s list i x e)

  default_stays : (ty : Option Ty) (v : Option tree_value.Value) (list : List At) → Stays list (n.put_default schema within ty v list)
  default_stays ty None list i x e = e
  default_stays ty (Some v) list i x e = value_stays ty v.kind v.pos list i x e

  variables_stay : (before : List (List ℕ)) (vs : List VariableDefinition) (list : List At) → Stays list (n.put_variables schema within before vs list)
  variables_stay before [] list i x e = e
  variables_stay before (v ∷ vs) list i x e =
      variables_stay (with_name before v.name) vs _ i x
      (directives_stay [] location.Other v.directives _ i x (default_stays (ty_written schema v.ty) v.default _ i x (stays_put within _ list i x e)))

  parts_stay : (place : ℕ) (d : Definition) (list : List At) → Stays list (n.put_parts schema within place d list)
  parts_stay place (definition.Operation o) list i x e =
      selections_stay place (root_of schema o.kind) o.selections _ i x
      (directives_stay [] location.Other o.directives _ i x (variables_stay [] o.variables list i x e))
  parts_stay place (definition.Fragment f) list i x e =
      selections_stay place (object_named schema f.type_condition) f.selections _ i x (directives_stay [] location.Other f.directives list i x e)
  parts_stay place (definition.Foreign pos) list i x e = e

-- ---- definitions

definitions_stay : (schema : SchemaParts) (within : ℕ) (operations fragments : List (List ℕ)) (ds : List Definition) (list : List At)
    → Stays list (n.put_definitions schema within operations fragments ds list)
definitions_stay schema within operations fragments [] list i x e = e
definitions_stay schema within operations fragments (d ∷ ds) list i x e =
    definitions_stay schema (within + 1) (with_taken operations (operation_name d)) (with_taken fragments (fragment_name d)) ds _ i x
    (parts_stay schema within (length list) d _ i x (stays_put within _ list i x e))

at_end : (list : List At) (x : At) → slice_get (list ++ x ∷ []) (length list) ≡ Some x
at_end [] x = refl
at_end (y ∷ list) x = at_end list x

-- the node of a definition
record HasNode (nodes : List At) (d : Definition) : Type 0 where
  place : ℕ
  at : At
  repeated : Bool
  stands : slice_get nodes place ≡ Some at
  is : at.node ≡ at_definition repeated d

some_same : (d e : Definition) → Some d ≡ Some e → d ≡ e
some_same d e h = cc

definition_there : (schema : SchemaParts) (within : ℕ) (operations fragments : List (List ℕ)) (ds : List Definition) (list : List At) (i : ℕ) (d : Definition)
    → slice_get ds i ≡ Some d → HasNode (n.put_definitions schema within operations fragments ds list) d
definition_there schema within operations fragments [] list i d e = cc
definition_there schema within operations fragments (c ∷ ds) list zero d e =
    let repeated = is_repeated operations fragments c in
    let x : At = record { within = within; node = at_definition repeated c } in
    record {
      place = length list;
      at = x;
      repeated = repeated;
      stands = definitions_stay schema (within + 1) (with_taken operations (operation_name c)) (with_taken fragments (fragment_name c)) ds _ (length list) x
          (parts_stay schema within (length list) c (list ++ x ∷ []) (length list) x (at_end list x));
      is = ap (λ y. at_definition repeated y) (some_same c d e);
    }
definition_there schema within operations fragments (c ∷ ds) list (suc i) d e =
    definition_there schema (within + 1) (with_taken operations (operation_name c)) (with_taken fragments (fragment_name c)) ds _ i d e

-- ---- the rule

rootless : (schema : SchemaParts) (k : OperationKind) → k ≡ kind.Subscription → is_none (root_of schema k) ≡ true
rootless schema k e = ap (λ x. is_none (root_of schema x)) e

pub never_subscribed : (schema : SchemaParts) (read : Document) (place : ℕ) (o : OperationDefinition) → IsValidDocument schema read → slice_get read.definitions place ≡ Some (definition.Operation o)
    → o.kind ≡ kind.Subscription → ⊥
never_subscribed schema read place o valid stands is =
    let node = definition_there schema 0 [] [] read.definitions [] place (definition.Operation o) stands in
    valid (on_shapes rule.SingleRootField) node.place node.at node.stands
    (subst (λ (x : Node). IsTrue (breaks schema x)) (sym node.is) (rootless schema o.kind is))
