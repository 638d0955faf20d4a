-- Tests of nodes of one sort; nodes of the others don't pass.
use Rattle.std.specs.Prelude.{ℕ, Bool, false, List, Option}
use Rattle.pg_base.specs.declared.schema.ArgDef.{ArgDef}
use Rattle.gql_reader.specs.declared.tree.Argument.{Argument}
use Rattle.gql_reader.specs.declared.tree.Directive.{Directive}
use Rattle.gql_reader.specs.declared.tree.Field.{Field}
use Rattle.gql_reader.specs.declared.tree.Definition.{Definition}
use Rattle.gql_nodes.specs.declared.node.Location.{Location}
use Rattle.gql_nodes.specs.Fields.{Known}
use Rattle.gql_nodes.specs.Nodes.{Node, at_definition, at_variable, at_field, at_spread, at_inline, at_directive}
use Rattle.gql_nodes.specs.Nodes.{at_argument, at_value, at_object_field}

abbrev pub on_definition : (Bool → Definition → Bool) → Node → Bool
on_definition test (at_definition repeated d) = test repeated d
on_definition test (at_variable repeated v) = false
on_definition test (at_field owner parent known f) = false
on_definition test (at_spread owner parent s) = false
on_definition test (at_inline owner parent i) = false
on_definition test (at_directive repeated at defs d) = false
on_definition test (at_argument repeated defs a) = false
on_definition test (at_value ty kind pos) = false
on_definition test (at_object_field repeated defs name pos) = false

abbrev pub on_field : (Option ℕ → Option Known → Field → Bool) → Node → Bool
on_field test (at_definition repeated d) = false
on_field test (at_variable repeated v) = false
on_field test (at_field owner parent known f) = test parent known f
on_field test (at_spread owner parent s) = false
on_field test (at_inline owner parent i) = false
on_field test (at_directive repeated at defs d) = false
on_field test (at_argument repeated defs a) = false
on_field test (at_value ty kind pos) = false
on_field test (at_object_field repeated defs name pos) = false

abbrev pub on_directive : (Bool → Location → Option (List ArgDef) → Directive → Bool) → Node → Bool
on_directive test (at_definition repeated d) = false
on_directive test (at_variable repeated v) = false
on_directive test (at_field owner parent known f) = false
on_directive test (at_spread owner parent s) = false
on_directive test (at_inline owner parent i) = false
on_directive test (at_directive repeated at defs d) = test repeated at defs d
on_directive test (at_argument repeated defs a) = false
on_directive test (at_value ty kind pos) = false
on_directive test (at_object_field repeated defs name pos) = false

abbrev pub on_argument : (Bool → Option (List ArgDef) → Argument → Bool) → Node → Bool
on_argument test (at_definition repeated d) = false
on_argument test (at_variable repeated v) = false
on_argument test (at_field owner parent known f) = false
on_argument test (at_spread owner parent s) = false
on_argument test (at_inline owner parent i) = false
on_argument test (at_directive repeated at defs d) = false
on_argument test (at_argument repeated defs a) = test repeated defs a
on_argument test (at_value ty kind pos) = false
on_argument test (at_object_field repeated defs name pos) = false
