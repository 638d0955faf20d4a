-- Nodes of what stands in rows of the tree, by lists.
use Rattle.std.proofs.Common.{◌≡◌, ℕ, suc, List, [], ◌∷◌, Option, length, refl, sym, ap, ◌∙◌}
use Rattle.std.specs.Prelude.{option_and_then}
use Rattle.pg_base.specs.declared.pos.Pos.{Pos}
use Rattle.pg_base.specs.declared.schema.ArgDef.{ArgDef}
use Rattle.pg_base.specs.Schema.{SchemaParts}
use Rattle.gql_reader.specs.declared.tree.Value.{Value}
use Rattle.gql_reader.specs.declared.tree.ObjectField.{ObjectField}
use Rattle.gql_reader.specs.declared.tree.ValueKind.{ValueKind}
use Rattle.gql_reader.specs.declared.tree.ValueKind.TheVariants as value_kind
use Rattle.gql_reader.specs.declared.tree.ValueKind.TheBlock.{hidden-the_row-Value-0, hidden-the_row-ObjectField-1}
use Rattle.gql_reader.specs.declared.tree.Selection.{Selection}
use Rattle.gql_reader.specs.declared.tree.Selection.TheVariants as selection
use Rattle.gql_reader.specs.declared.tree.Selection.TheBlock.{hidden-the_row-Selection-0}
use Rattle.gql_reader.specs.declared.tree.Field.{Field}
use Rattle.gql_reader.specs.declared.tree.InlineFragment.{InlineFragment}
use Rattle.gql_types.specs.Types.{Ty, item_of, inputs_at}
use Rattle.gql_nodes.specs.declared.node.At as code_at
use Rattle.gql_nodes.specs.Names.{with_name}
use Rattle.gql_nodes.specs.Fields.{Known, field_of, below, within_condition}
use Rattle.gql_nodes.specs.Nodes.{At, at_value, put, put_value, put_items, put_object_fields, put_rows, put_selection}
use Rattle.gql_nodes.specs.Nodes.{put_selections, put_field_head, put_inline_head, selection_list}
use Rattle.gql_nodes.specs.Listed.{views, put_each_item, put_field, put_each_field}

-- ---- values

items_row : (schema : SchemaParts) (within : ℕ) (ty : Option Ty) (items : List Value) (list : List At) → put_items schema within ty (hidden-the_row-Value-0 items) list ≡ put_each_item schema within ty items list
unfolding hidden-the_row-Value-0 denote.Hole.Carrier.hidden
items_row schema within ty [] list = refl
items_row schema within ty (v ∷ items) list = items_row schema within ty items (put_value schema within ty v.kind v.pos list)

fields_row : (schema : SchemaParts) (within : ℕ) (before : List (List ℕ)) (defs : Option (List ArgDef)) (fields : List ObjectField) (list : List At) → put_object_fields schema within before defs (hidden-the_row-ObjectField-1 fields) list ≡ put_each_field schema within before defs fields list
unfolding hidden-the_row-ObjectField-1 denote.Hole.Carrier.hidden
fields_row schema within before defs [] list = refl
fields_row schema within before defs (f ∷ fields) list = fields_row schema within (with_name before f.name) defs fields (put_field schema within before defs f list)

pub list_put : (schema : SchemaParts) (within : ℕ) (ty inner : Option Ty) (kind : ValueKind) (pos : Pos) (items slice : List Value) (out pushed new : List At)
    → kind ≡ value_kind.List items → slice ≡ items → inner ≡ option_and_then item_of ty → pushed ≡ put within (at_value ty kind pos) out
    → new ≡ put_each_item schema within inner slice pushed → new ≡ put_value schema within ty kind pos out
unfolding hidden-the_row-Value-0 denote.Hole.Carrier.hidden
list_put schema within ty inner kind pos items slice out pushed new is same at put_is more =
    let of = option_and_then item_of ty in
    more
    ∙ ap (λ t. put_each_item schema within t slice pushed) at
    ∙ ap (λ l. put_each_item schema within of l pushed) same
    ∙ sym (items_row schema within of items pushed)
    ∙ ap (λ p. put_items schema within of (hidden-the_row-Value-0 items) p) (put_is ∙ ap (λ k. put within (at_value ty k pos) out) is)
    ∙ ap (λ k. put_value schema within ty k pos out) (sym is)

pub object_put : (schema : SchemaParts) (within : ℕ) (ty : Option Ty) (defs : Option (List ArgDef)) (kind : ValueKind) (pos : Pos) (fields slice : List ObjectField) (out pushed new : List At)
    → kind ≡ value_kind.Object fields → slice ≡ fields → defs ≡ inputs_at schema ty → pushed ≡ put within (at_value ty kind pos) out
    → new ≡ put_each_field schema within [] defs slice pushed → new ≡ put_value schema within ty kind pos out
unfolding hidden-the_row-ObjectField-1 denote.Hole.Carrier.hidden
object_put schema within ty defs kind pos fields slice out pushed new is same at put_is more =
    let of = inputs_at schema ty in
    more
    ∙ ap (λ t. put_each_field schema within [] t slice pushed) at
    ∙ ap (λ l. put_each_field schema within [] of l pushed) same
    ∙ sym (fields_row schema within [] of fields pushed)
    ∙ ap (λ p. put_object_fields schema within [] of (hidden-the_row-ObjectField-1 fields) p) (put_is ∙ ap (λ k. put within (at_value ty k pos) out) is)
    ∙ ap (λ k. put_value schema within ty k pos out) (sym is)

-- ---- selections

selections_row : (xs : List Selection) → selection_list (hidden-the_row-Selection-0 xs) ≡ xs
unfolding hidden-the_row-Selection-0 denote.Hole.Carrier.hidden
selections_row [] = refl
selections_row (s ∷ xs) = ap (λ l. s ∷ l) (selections_row xs)

rows_row : (schema : SchemaParts) (within owner : ℕ) (parent : Option ℕ) (xs : List Selection) (list : List At) → put_rows schema within owner parent (hidden-the_row-Selection-0 xs) list ≡ put_selections schema within owner parent xs list
unfolding hidden-the_row-Selection-0 denote.Hole.Carrier.hidden
rows_row schema within owner parent [] list = refl
rows_row schema within owner parent (s ∷ xs) list = rows_row schema within owner parent xs (put_selection schema within owner parent s list)

pub views_length : (xs : List code_at.At) → length (views xs) ≡ length xs
views_length [] = refl
views_length (x ∷ xs) = ap suc (views_length xs)

field_put : (schema : SchemaParts) (within owner : ℕ) (parent : Option ℕ) (f : Field) (list : List At)
    → put_selection schema within owner parent (selection.Field f) list ≡ put_selections schema within (length list) (below schema (field_of schema parent f.name)) f.selections (put_field_head schema within owner parent (field_of schema parent f.name) f list)
unfolding hidden-the_row-Selection-0 denote.Hole.Carrier.hidden
field_put schema within owner parent f list =
    let known = field_of schema parent f.name in
    let held : List Selection → Field = λ l. record { alias = f.alias; name = f.name; arguments = f.arguments; directives = f.directives; selections = l; pos = f.pos } in
    ap (λ l. put_rows schema within (length list) (below schema known) (hidden-the_row-Selection-0 f.selections) (put_field_head schema within owner parent known (held l) list)) (selections_row f.selections)
    ∙ rows_row schema within (length list) (below schema known) f.selections (put_field_head schema within owner parent known f list)

inline_put : (schema : SchemaParts) (within owner : ℕ) (parent : Option ℕ) (i : InlineFragment) (list : List At)
    → put_selection schema within owner parent (selection.InlineFragment i) list ≡ put_selections schema within (length list) (within_condition schema parent i.type_condition) i.selections (put_inline_head schema within owner parent i list)
unfolding hidden-the_row-Selection-0 denote.Hole.Carrier.hidden
inline_put schema within owner parent i list =
    let inner = within_condition schema parent i.type_condition in
    let held : List Selection → InlineFragment = λ l. record { type_condition = i.type_condition; directives = i.directives; selections = l; pos = i.pos } in
    ap (λ l. put_rows schema within (length list) inner (hidden-the_row-Selection-0 i.selections) (put_inline_head schema within owner parent (held l) list)) (selections_row i.selections)
    ∙ rows_row schema within (length list) inner i.selections (put_inline_head schema within owner parent i list)

pub field_selection : (schema : SchemaParts) (within owner at : ℕ) (parent inner : Option ℕ) (known : Option Known) (s : Selection) (f : Field) (slice : List Selection) (out middle new : List At)
    → s ≡ selection.Field f → at ≡ length out → known ≡ field_of schema parent f.name → inner ≡ below schema known → slice ≡ f.selections
    → middle ≡ put_field_head schema within owner parent known f out → new ≡ put_selections schema within at inner slice middle
    → new ≡ put_selection schema within owner parent s out
field_selection schema within owner at parent inner known s f slice out middle new is place known_is inner_is same middle_is more =
    let real = field_of schema parent f.name in
    more
    ∙ ap (λ a. put_selections schema within a inner slice middle) place
    ∙ ap (λ p. put_selections schema within (length out) p slice middle) (inner_is ∙ ap (below schema) known_is)
    ∙ ap (λ l. put_selections schema within (length out) (below schema real) l middle) same
    ∙ ap (λ m. put_selections schema within (length out) (below schema real) f.selections m) (middle_is ∙ ap (λ k. put_field_head schema within owner parent k f out) known_is)
    ∙ sym (field_put schema within owner parent f out)
    ∙ ap (λ x. put_selection schema within owner parent x out) (sym is)

pub inline_selection : (schema : SchemaParts) (within owner at : ℕ) (parent inner : Option ℕ) (s : Selection) (i : InlineFragment) (slice : List Selection) (out middle new : List At)
    → s ≡ selection.InlineFragment i → at ≡ length out → inner ≡ within_condition schema parent i.type_condition → slice ≡ i.selections
    → middle ≡ put_inline_head schema within owner parent i out → new ≡ put_selections schema within at inner slice middle
    → new ≡ put_selection schema within owner parent s out
inline_selection schema within owner at parent inner s i slice out middle new is place inner_is same middle_is more =
    let real = within_condition schema parent i.type_condition in
    more
    ∙ ap (λ a. put_selections schema within a inner slice middle) place
    ∙ ap (λ p. put_selections schema within (length out) p slice middle) inner_is
    ∙ ap (λ l. put_selections schema within (length out) real l middle) same
    ∙ ap (λ m. put_selections schema within (length out) real i.selections m) middle_is
    ∙ sym (inline_put schema within owner parent i out)
    ∙ ap (λ x. put_selection schema within owner parent x out) (sym is)
