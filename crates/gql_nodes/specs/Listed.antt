-- The nodes that the code makes, seen as nodes, and the same lists over lists of values.
use Rattle.std.specs.Prelude.{ℕ, List, [], ◌∷◌, map, Option, option_map}
use Rattle.pg_base.specs.declared.schema.ArgDef.{ArgDef}
use Rattle.pg_base.specs.Schema.{SchemaParts}
use Rattle.gql_reader.specs.declared.tree.Value.{Value}
use Rattle.gql_reader.specs.declared.tree.ObjectField.{ObjectField}
use Rattle.gql_types.specs.Types.{Ty, expected}
use Rattle.gql_types.specs.Positions.{ty_if}
use Rattle.gql_nodes.specs.declared.fields.Known as code_known
use Rattle.gql_nodes.specs.declared.node.Node as code
use Rattle.gql_nodes.specs.declared.node.Node.TheVariants as made
use Rattle.gql_nodes.specs.declared.node.At as code_at
use Rattle.gql_nodes.specs.Names.{is_among, with_name}
use Rattle.gql_nodes.specs.Fields.{Known}
use Rattle.gql_nodes.specs.Nodes.{Node, at_definition, at_variable, at_field, at_spread, at_inline, at_directive}
use Rattle.gql_nodes.specs.Nodes.{at_argument, at_value, at_object_field, At, put, put_value}

abbrev pub known_at : code_known.Known → Known
known_at k = record { args = k.args.now; ty = k.ty }

abbrev pub view : code.Node → Node
view (made.Definition repeated d) = at_definition repeated d.now
view (made.Variable repeated v) = at_variable repeated v.now
view (made.Field owner parent known f) = at_field owner parent (option_map known_at known) f.now
view (made.Spread owner parent s) = at_spread owner parent s.now
view (made.Inline owner parent i) = at_inline owner parent i.now
view (made.Directive repeated location defs d) = at_directive repeated location (option_map (λ x. x.now) defs) d.now
view (made.Argument repeated defs a) = at_argument repeated (option_map (λ x. x.now) defs) a.now
view (made.Value ty v) = at_value (ty_if ty) v.now.kind v.now.pos
view (made.ObjectField repeated defs f) =
    at_object_field repeated (option_map (λ x. x.now) defs) f.now.name f.now.pos

abbrev pub at_view : code_at.At → At
at_view x = record { within = x.within; node = view x.node }

abbrev pub views : List code_at.At → List At
views list = map at_view list

-- the nodes of values in a list
abbrev pub put_each_item : SchemaParts → ℕ → Option Ty → List Value → List At → List At
put_each_item schema within ty [] list = list
put_each_item schema within ty (v ∷ items) list =
    put_each_item schema within ty items (put_value schema within ty v.kind v.pos list)

-- the nodes of an object's field
abbrev pub put_field : SchemaParts → ℕ → List (List ℕ) → Option (List ArgDef) → ObjectField → List At → List At
put_field schema within before defs f list =
    put_value schema within (expected defs f.name) f.value.kind f.value.pos
    (put within (at_object_field (is_among f.name before) defs f.name f.pos) list)

abbrev pub put_each_field : SchemaParts → ℕ → List (List ℕ) → Option (List ArgDef) → List ObjectField → List At
    → List At
put_each_field schema within before defs [] list = list
put_each_field schema within before defs (f ∷ fields) list =
    put_each_field schema within (with_name before f.name) defs fields (put_field schema within before defs f list)
