-- Each part of a document adds its nodes at the end of the list, and none but definitions add definitions.
use Rattle.std.proofs.Common.{◌≡◌, ℕ, Bool, false, List, [], ◌∷◌, ◌++◌, length, Option, Some, None, refl, sym, ap, ◌∙◌, append_assoc, append-nil}
use Rattle.std.specs.Prelude.{slice_get, option_and_then}
use Rattle.pg_base.specs.Lists.{Each}
use Rattle.pg_base.specs.Schema.{SchemaParts}
use Rattle.pg_base.specs.declared.pos.Pos.{Pos}
use Rattle.pg_base.specs.declared.schema.ArgDef.{ArgDef}
use Rattle.gql_reader.specs.declared.tree.ValueKind.{ValueKind, Variable, Int, Float, String, Boolean, Null, Enum}
use Rattle.gql_reader.specs.declared.tree.ValueKind.{List', Object', Row_of-Value, end_of-Value, more_of-Value}
use Rattle.gql_reader.specs.declared.tree.ValueKind.{Row_of-ObjectField, end_of-ObjectField, more_of-ObjectField}
use Rattle.gql_reader.specs.declared.tree.Value as tree_value
use Rattle.gql_reader.specs.declared.tree.Argument.{Argument}
use Rattle.gql_reader.specs.declared.tree.Directive.{Directive}
use Rattle.gql_reader.specs.declared.tree.VariableDefinition.{VariableDefinition}
use Rattle.gql_reader.specs.declared.tree.Selection.{Selection, Field', FragmentSpread, InlineFragment'}
use Rattle.gql_reader.specs.declared.tree.Selection.{Row_of-Selection, end_of-Selection, more_of-Selection}
use Rattle.gql_reader.specs.declared.tree.Field.{Field}
use Rattle.gql_reader.specs.declared.tree.InlineFragment as tree_inline
use Rattle.gql_reader.specs.declared.tree.FragmentSpread as tree_spread
use Rattle.gql_reader.specs.declared.tree.Definition.{Definition}
use Rattle.gql_reader.specs.declared.tree.Definition.TheVariants as definition
use Rattle.gql_types.specs.Types.{Ty, ty_written, item_of, inputs_at, expected, object_named}
use Rattle.gql_nodes.specs.declared.node.Location.{Location}
use Rattle.gql_nodes.specs.declared.node.Location.TheVariants as location
use Rattle.gql_nodes.specs.Names.{is_among, with_name}
use Rattle.gql_nodes.specs.Fields.{Known, field_of, below, within_condition, args_of, directive_args, root_of}
use Rattle.gql_nodes.specs.Nodes.{Node, at_variable, at_field, at_spread, at_inline, at_directive, at_argument, at_value, at_object_field, At, put, put_value, put_items, put_object_fields, put_argument, put_arguments, put_directive, put_directives, selection_list, put_field_head, put_spread, put_inline_head, put_selection, put_rows, put_selections, put_default, put_variable, put_variables, put_parts}
use Rattle.gql_nodes.specs.Sorts.{on_definition}
use Rattle.schema_laws.proofs.Eaches.{Each-append}
use Rattle.gql_validate.specs.FieldSelectionMerging.{is_fragment}

-- the node is no fragment
abbrev pub IsPart : At → Type 0
IsPart x = (name : List ℕ) → on_definition (λ repeated d. is_fragment name d) x.node ≡ false

pub record Grows (list made : List At) : Type 0 where
  pub added : List At
  pub is : made ≡ list ++ added
  pub parts : Each IsPart added

pub stays : (list : List At) → Grows list list
stays list = record { added = []; is = sym (append-nil list); parts = tt }

pub and_then : (a b c : List At) → Grows a b → Grows b c → Grows a c
and_then a b c x y = record {
  added = x.added ++ y.added;
  is = y.is ∙ ap (λ l. l ++ y.added) x.is ∙ append_assoc a x.added y.added;
  parts = Each-append IsPart x.added y.added x.parts y.parts;
}

pub one_put : (within : ℕ) (n : Node) (list : List At) → ((name : List ℕ) → on_definition (λ repeated d. is_fragment name d) n ≡ false) → Grows list (put within n list)
one_put within n list h = record { added = record { within = within; node = n } ∷ []; is = refl; parts = (h, tt) }

module _ (schema : SchemaParts) (within : ℕ) where
  mutual
    pub value_grows : (ty : Option Ty) (k : ValueKind) (at : Pos) (list : List At) → Grows list (put_value schema within ty k at list)
    value_grows ty (Variable name) at list = one_put within (at_value ty (Variable name) at) list (λ n. refl)
    value_grows ty (Int text) at list = one_put within (at_value ty (Int text) at) list (λ n. refl)
    value_grows ty (Float text) at list = one_put within (at_value ty (Float text) at) list (λ n. refl)
    value_grows ty (String text) at list = one_put within (at_value ty (String text) at) list (λ n. refl)
    value_grows ty (Boolean b) at list = one_put within (at_value ty (Boolean b) at) list (λ n. refl)
    value_grows ty Null at list = one_put within (at_value ty Null at) list (λ n. refl)
    value_grows ty (Enum name) at list = one_put within (at_value ty (Enum name) at) list (λ n. refl)
    value_grows ty (List' n items) at list =
        let x : Node = at_value ty (List' n items) at in
        and_then list (put within x list) _ (one_put within x list (λ n. refl)) (items_grow (option_and_then item_of ty) items (put within x list))
    value_grows ty (Object' n members) at list =
        let x : Node = at_value ty (Object' n members) at in
        and_then list (put within x list) _ (one_put within x list (λ n. refl)) (fields_grow [] (inputs_at schema ty) members (put within x list))

    pub items_grow : {n : _} (ty : Option Ty) (items : Row_of-Value n) (list : List At) → Grows list (put_items schema within ty items list)
    items_grow ty end_of-Value list = stays list
    items_grow ty (more_of-Value k at rest) list =
        and_then list (put_value schema within ty k at list) _ (value_grows ty k at list) (items_grow ty rest (put_value schema within ty k at list))

    pub fields_grow : {n : _} (before : List (List ℕ)) (defs : Option (List ArgDef)) (members : Row_of-ObjectField n) (list : List At) → Grows list (put_object_fields schema within before defs members list)
    fields_grow before defs end_of-ObjectField list = stays list
    fields_grow before defs (more_of-ObjectField name k place at rest) list =
        let x : Node = at_object_field (is_among name before) defs name at in
        let next : List At = put_value schema within (expected defs name) k place (put within x list) in
        and_then list next _ (and_then list (put within x list) next (one_put within x list (λ n. refl)) (value_grows (expected defs name) k place (put within x list)))
        (fields_grow (with_name before name) defs rest next)

  pub argument_grows : (repeated : Bool) (defs : Option (List ArgDef)) (a : Argument) (list : List At) → Grows list (put_argument schema within repeated defs a list)
  argument_grows repeated defs a list =
      let x : Node = at_argument repeated defs a in
      and_then list (put within x list) _ (one_put within x list (λ n. refl)) (value_grows (expected defs a.name) a.value.kind a.value.pos (put within x list))

  pub arguments_grow : (before : List (List ℕ)) (defs : Option (List ArgDef)) (arguments : List Argument) (list : List At) → Grows list (put_arguments schema within before defs arguments list)
  arguments_grow before defs [] list = stays list
  arguments_grow before defs (a ∷ arguments) list =
      let next : List At = put_argument schema within (is_among a.name before) defs a list in
      and_then list next _ (argument_grows (is_among a.name before) defs a list) (arguments_grow (with_name before a.name) defs arguments next)

  directive_grows : (repeated : Bool) (at : Location) (d : Directive) (list : List At) → Grows list (put_directive schema within repeated at d list)
  directive_grows repeated at d list =
      let x : Node = at_directive repeated at (directive_args d.name) d in
      and_then list (put within x list) _ (one_put within x list (λ n. refl)) (arguments_grow [] (directive_args d.name) d.arguments (put within x list))

  pub directives_grow : (before : List (List ℕ)) (at : Location) (directives : List Directive) (list : List At) → Grows list (put_directives schema within before at directives list)
  directives_grow before at [] list = stays list
  directives_grow before at (d ∷ directives) list =
      let next : List At = put_directive schema within (is_among d.name before) at d list in
      and_then list next _ (directive_grows (is_among d.name before) at d list) (directives_grow (with_name before d.name) at directives next)

  pub field_head_grows : (owner : ℕ) (parent : Option ℕ) (known : Option Known) (f : Field) (list : List At) → Grows list (put_field_head schema within owner parent known f list)
  field_head_grows owner parent known f list =
      let x : Node = at_field owner parent known f in
      let next : List At = put_arguments schema within [] (args_of known) f.arguments (put within x list) in
      and_then list next _ (and_then list (put within x list) next (one_put within x list (λ n. refl)) (arguments_grow [] (args_of known) f.arguments (put within x list)))
      (directives_grow [] location.Field f.directives next)

  pub spread_grows : (owner : ℕ) (parent : Option ℕ) (s : tree_spread.FragmentSpread) (list : List At) → Grows list (put_spread schema within owner parent s list)
  spread_grows owner parent s list =
      let x : Node = at_spread owner parent s in
      and_then list (put within x list) _ (one_put within x list (λ n. refl)) (directives_grow [] location.FragmentSpread s.directives (put within x list))

  pub inline_head_grows : (owner : ℕ) (parent : Option ℕ) (i : tree_inline.InlineFragment) (list : List At) → Grows list (put_inline_head schema within owner parent i list)
  inline_head_grows owner parent i list =
      let x : Node = at_inline owner parent i in
      and_then list (put within x list) _ (one_put within x list (λ n. refl)) (directives_grow [] location.InlineFragment i.directives (put within x list))

  mutual
    pub selection_grows : (owner : ℕ) (parent : Option ℕ) (s : Selection) (list : List At) → Grows list (put_selection schema within owner parent s list)
    selection_grows owner parent (Field' alias name arguments directives n rows at) list =
        let f : Field = record { alias = alias; name = name; arguments = arguments; directives = directives; selections = selection_list rows; pos = at } in
        let next : List At = put_field_head schema within owner parent (field_of schema parent name) f list in
        and_then list next _ (field_head_grows owner parent (field_of schema parent name) f list) (rows_grow (length list) (below schema (field_of schema parent name)) rows next)
    selection_grows owner parent (FragmentSpread s) list = spread_grows owner parent s list
    selection_grows owner parent (InlineFragment' on directives n rows at) list =
        let i : tree_inline.InlineFragment = record { type_condition = on; directives = directives; selections = selection_list rows; pos = at } in
        let next : List At = put_inline_head schema within owner parent i list in
        and_then list next _ (inline_head_grows owner parent i list) (rows_grow (length list) (within_condition schema parent on) rows next)

    pub rows_grow : {n : _} (owner : ℕ) (parent : Option ℕ) (rows : Row_of-Selection n) (list : List At) → Grows list (put_rows schema within owner parent rows list)
    rows_grow owner parent end_of-Selection list = stays list
    rows_grow owner parent (more_of-Selection s rest) list =
        and_then list (put_selection schema within owner parent s list) _ (selection_grows owner parent s list) (rows_grow owner parent rest (put_selection schema within owner parent s list))

  pub selections_grow : (owner : ℕ) (parent : Option ℕ) (selections : List Selection) (list : List At) → Grows list (put_selections schema within owner parent selections list)
  selections_grow owner parent [] list = stays list
  selections_grow owner parent (s ∷ selections) list =
      and_then list (put_selection schema within owner parent s list) _ (selection_grows owner parent s list) (selections_grow owner parent selections (put_selection schema within owner parent s list))

  default_grows : (ty : Option Ty) (default : Option tree_value.Value) (list : List At) → Grows list (put_default schema within ty default list)
  default_grows ty None list = stays list
  default_grows ty (Some v) list = value_grows ty v.kind v.pos list

  -- what comes after the variable's own node
  pub variable_rest : (repeated : Bool) (v : VariableDefinition) (list : List At) → Grows (put within (at_variable repeated v) list) (put_variable schema within repeated v list)
  variable_rest repeated v list =
      let first : List At = put within (at_variable repeated v) list in
      let next : List At = put_default schema within (ty_written schema v.ty) v.default first in
      and_then first next _ (default_grows (ty_written schema v.ty) v.default first) (directives_grow [] location.Other v.directives next)

  pub variable_grows : (repeated : Bool) (v : VariableDefinition) (list : List At) → Grows list (put_variable schema within repeated v list)
  variable_grows repeated v list =
      let x : Node = at_variable repeated v in
      let next : List At = put_default schema within (ty_written schema v.ty) v.default (put within x list) in
      and_then list next _ (and_then list (put within x list) next (one_put within x list (λ n. refl)) (default_grows (ty_written schema v.ty) v.default (put within x list)))
      (directives_grow [] location.Other v.directives next)

  pub variables_grow : (before : List (List ℕ)) (variables : List VariableDefinition) (list : List At) → Grows list (put_variables schema within before variables list)
  variables_grow before [] list = stays list
  variables_grow before (v ∷ variables) list =
      let next : List At = put_variable schema within (is_among v.name before) v list in
      and_then list next _ (variable_grows (is_among v.name before) v list) (variables_grow (with_name before v.name) variables next)

  pub parts_grow : (place : ℕ) (d : Definition) (list : List At) → Grows list (put_parts schema within place d list)
  parts_grow place (definition.Operation o) list =
      let first : List At = put_variables schema within [] o.variables list in
      let next : List At = put_directives schema within [] location.Other o.directives first in
      and_then list next _ (and_then list first next (variables_grow [] o.variables list) (directives_grow [] location.Other o.directives first))
      (selections_grow place (root_of schema o.kind) o.selections next)
  parts_grow place (definition.Fragment f) list =
      let next : List At = put_directives schema within [] location.Other f.directives list in
      and_then list next _ (directives_grow [] location.Other f.directives list) (selections_grow place (object_named schema f.type_condition) f.selections next)
  parts_grow place (definition.Foreign at) list = stays list

-- ---- the front of a list

-- the list is that of all nodes up to some place
pub record IsFront (all made : List At) : Type 0 where
  pub rest : List At
  pub is : all ≡ made ++ rest

pub front_before : (all a b : List At) → Grows a b → IsFront all b → IsFront all a
front_before all a b x p = record { rest = x.added ++ p.rest; is = p.is ∙ ap (λ l. l ++ p.rest) x.is ∙ append_assoc a x.added p.rest }

get_next : {A : Type 0} (xs : List A) (y : A) (zs : List A) → slice_get ((xs ++ y ∷ []) ++ zs) (length xs) ≡ Some y
get_next [] y zs = refl
get_next (x ∷ xs) y zs = get_next xs y zs

-- the node that was put stands there
pub stands_there : (all : List At) (within : ℕ) (n : Node) (list : List At) → IsFront all (put within n list) → slice_get all (length list) ≡ Some (record { within = within; node = n })
stands_there all within n list p = ap (λ l. slice_get l (length list)) p.is ∙ get_next list (record { within = within; node = n }) p.rest
