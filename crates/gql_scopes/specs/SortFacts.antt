-- What holds of a node of one sort, and of no other node.
use Rattle.std.specs.Prelude.{Option}
use Rattle.gql_reader.specs.declared.tree.ValueKind.{ValueKind}
use Rattle.gql_reader.specs.declared.tree.VariableDefinition.{VariableDefinition}
use Rattle.gql_reader.specs.declared.tree.FragmentSpread.{FragmentSpread}
use Rattle.gql_types.specs.Types.{Ty}
use Rattle.gql_nodes.specs.Nodes.{Node, at_definition, at_variable, at_field, at_spread, at_inline, at_directive}
use Rattle.gql_nodes.specs.Nodes.{at_argument, at_value, at_object_field}

abbrev pub OfSpread : (FragmentSpread → Type 0) → Node → Type 0
OfSpread Fact (at_definition repeated d) = ⊥
OfSpread Fact (at_variable repeated v) = ⊥
OfSpread Fact (at_field owner parent known f) = ⊥
OfSpread Fact (at_spread owner parent s) = Fact s
OfSpread Fact (at_inline owner parent i) = ⊥
OfSpread Fact (at_directive repeated at defs d) = ⊥
OfSpread Fact (at_argument repeated defs a) = ⊥
OfSpread Fact (at_value ty kind pos) = ⊥
OfSpread Fact (at_object_field repeated defs name pos) = ⊥

abbrev pub OfVariable : (VariableDefinition → Type 0) → Node → Type 0
OfVariable Fact (at_definition repeated d) = ⊥
OfVariable Fact (at_variable repeated v) = Fact v
OfVariable Fact (at_field owner parent known f) = ⊥
OfVariable Fact (at_spread owner parent s) = ⊥
OfVariable Fact (at_inline owner parent i) = ⊥
OfVariable Fact (at_directive repeated at defs d) = ⊥
OfVariable Fact (at_argument repeated defs a) = ⊥
OfVariable Fact (at_value ty kind pos) = ⊥
OfVariable Fact (at_object_field repeated defs name pos) = ⊥

abbrev pub OfValue : (Option Ty → ValueKind → Type 0) → Node → Type 0
OfValue Fact (at_definition repeated d) = ⊥
OfValue Fact (at_variable repeated v) = ⊥
OfValue Fact (at_field owner parent known f) = ⊥
OfValue Fact (at_spread owner parent s) = ⊥
OfValue Fact (at_inline owner parent i) = ⊥
OfValue Fact (at_directive repeated at defs d) = ⊥
OfValue Fact (at_argument repeated defs a) = ⊥
OfValue Fact (at_value ty kind pos) = Fact ty kind
OfValue Fact (at_object_field repeated defs name pos) = ⊥
