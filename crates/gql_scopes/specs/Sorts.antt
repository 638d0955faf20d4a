-- Tests of nodes of one sort; nodes of the others don't pass.
use Rattle.std.specs.Prelude.{ℕ, Bool, false, List, Option}
use Rattle.pg_base.specs.declared.schema.ArgDef.{ArgDef}
use Rattle.gql_reader.specs.declared.tree.ValueKind.{ValueKind}
use Rattle.gql_reader.specs.declared.tree.VariableDefinition.{VariableDefinition}
use Rattle.gql_reader.specs.declared.tree.InlineFragment.{InlineFragment}
use Rattle.gql_reader.specs.declared.tree.FragmentSpread.{FragmentSpread}
use Rattle.gql_types.specs.Types.{Ty}
use Rattle.gql_nodes.specs.Nodes.{Node, at_definition, at_variable, at_field, at_spread, at_inline, at_directive}
use Rattle.gql_nodes.specs.Nodes.{at_argument, at_value, at_object_field}

abbrev pub on_variable : (Bool → VariableDefinition → Bool) → Node → Bool
on_variable test (at_definition repeated d) = false
on_variable test (at_variable repeated v) = test repeated v
on_variable test (at_field owner parent known f) = false
on_variable test (at_spread owner parent s) = false
on_variable test (at_inline owner parent i) = false
on_variable test (at_directive repeated at defs d) = false
on_variable test (at_argument repeated defs a) = false
on_variable test (at_value ty kind pos) = false
on_variable test (at_object_field repeated defs name pos) = false

abbrev pub on_spread : (Option ℕ → FragmentSpread → Bool) → Node → Bool
on_spread test (at_definition repeated d) = false
on_spread test (at_variable repeated v) = false
on_spread test (at_field owner parent known f) = false
on_spread test (at_spread owner parent s) = test parent s
on_spread test (at_inline owner parent i) = false
on_spread test (at_directive repeated at defs d) = false
on_spread test (at_argument repeated defs a) = false
on_spread test (at_value ty kind pos) = false
on_spread test (at_object_field repeated defs name pos) = false

abbrev pub on_inline : (Option ℕ → InlineFragment → Bool) → Node → Bool
on_inline test (at_definition repeated d) = false
on_inline test (at_variable repeated v) = false
on_inline test (at_field owner parent known f) = false
on_inline test (at_spread owner parent s) = false
on_inline test (at_inline owner parent i) = test parent i
on_inline test (at_directive repeated at defs d) = false
on_inline test (at_argument repeated defs a) = false
on_inline test (at_value ty kind pos) = false
on_inline test (at_object_field repeated defs name pos) = false

abbrev pub on_value : (Option Ty → ValueKind → Bool) → Node → Bool
on_value test (at_definition repeated d) = false
on_value test (at_variable repeated v) = false
on_value test (at_field owner parent known f) = false
on_value test (at_spread owner parent s) = false
on_value test (at_inline owner parent i) = false
on_value test (at_directive repeated at defs d) = false
on_value test (at_argument repeated defs a) = false
on_value test (at_value ty kind pos) = test ty kind
on_value test (at_object_field repeated defs name pos) = false

abbrev pub on_object_field : (Bool → Option (List ArgDef) → List ℕ → Bool) → Node → Bool
on_object_field test (at_definition repeated d) = false
on_object_field test (at_variable repeated v) = false
on_object_field test (at_field owner parent known f) = false
on_object_field test (at_spread owner parent s) = false
on_object_field test (at_inline owner parent i) = false
on_object_field test (at_directive repeated at defs d) = false
on_object_field test (at_argument repeated defs a) = false
on_object_field test (at_value ty kind pos) = false
on_object_field test (at_object_field repeated defs name pos) = test repeated defs name
