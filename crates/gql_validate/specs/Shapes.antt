-- The rules on the shape of a document (sections 5.1 to 5.4 of the GraphQL specification, October 2021), and the first
-- fault.
use Rattle.std.specs.Prelude.{ℕ, Bool, true, false, ◌==◌, if◌then◌else◌, IsTrue, ◌≡◌}
use Rattle.pg_base.specs.Schema.{SchemaParts}
use Rattle.gql_reader.specs.declared.tree.Document.{Document}
use Rattle.pg_base.specs.declared.pos.Pos.{Pos}
use Rattle.gql_nodes.specs.declared.fault.RuleFault.{RuleFault}
use Rattle.gql_nodes.specs.declared.fault.RuleError.{RuleError}
use Rattle.gql_nodes.specs.declared.fault.RuleError.TheVariants.{Fault, Memory}
use Rattle.gql_nodes.specs.Nodes.{Node, At, nodes}
use Rattle.gql_nodes.specs.Rules.{AllHold, IsLeastFault, StandsFirst}
use Rattle.gql_validate.specs.declared.rule.ShapeRule.{ShapeRule}
use Rattle.gql_validate.specs.declared.rule.ShapeRule.TheVariants as rule
use Rattle.gql_validate.specs.ExecutableDefinitions as executable_definitions
use Rattle.gql_validate.specs.UniqueOperationNames as unique_operation_names
use Rattle.gql_validate.specs.LoneAnonymousOperation as lone_anonymous_operation
use Rattle.gql_validate.specs.SingleRootField as single_root_field
use Rattle.gql_validate.specs.FieldSelections as field_selections
use Rattle.gql_validate.specs.FieldSelectionMerging as field_selection_merging
use Rattle.gql_validate.specs.LeafFieldSelections as leaf_field_selections
use Rattle.gql_validate.specs.ArgumentNames as argument_names
use Rattle.gql_validate.specs.ArgumentUniqueness as argument_uniqueness
use Rattle.gql_validate.specs.RequiredArguments as required_arguments

abbrev pub number : ShapeRule → ℕ
number rule.ExecutableDefinitions = 1
number rule.UniqueOperationNames = 2
number rule.LoneAnonymousOperation = 3
number rule.SingleRootField = 4
number rule.FieldSelections = 5
number rule.FieldSelectionMerging = 6
number rule.LeafFieldSelections = 7
number rule.ArgumentNames = 8
number rule.ArgumentUniqueness = 9
number rule.RequiredArguments = 10

-- the rule with the number
abbrev pub rule_at : ℕ → ShapeRule
rule_at n =
    if n == 1 then rule.ExecutableDefinitions
    else (if n == 2 then rule.UniqueOperationNames
    else (if n == 3 then rule.LoneAnonymousOperation
    else (if n == 4 then rule.SingleRootField
    else (if n == 5 then rule.FieldSelections
    else (if n == 6 then rule.FieldSelectionMerging
    else (if n == 7 then rule.LeafFieldSelections
    else (if n == 8 then rule.ArgumentNames
    else (if n == 9 then rule.ArgumentUniqueness
    else rule.RequiredArguments))))))))

-- whether a node breaks a rule, of those that are tests of single nodes
abbrev pub test_of : SchemaParts → Document → ShapeRule → Node → Bool
test_of schema document rule.ExecutableDefinitions x = executable_definitions.breaks x
test_of schema document rule.UniqueOperationNames x = unique_operation_names.breaks x
test_of schema document rule.LoneAnonymousOperation x = lone_anonymous_operation.breaks document x
test_of schema document rule.SingleRootField x = single_root_field.breaks schema x
test_of schema document rule.FieldSelections x = field_selections.breaks x
test_of schema document rule.FieldSelectionMerging x = false
test_of schema document rule.LeafFieldSelections x = leaf_field_selections.breaks schema x
test_of schema document rule.ArgumentNames x = argument_names.breaks x
test_of schema document rule.ArgumentUniqueness x = argument_uniqueness.breaks x
test_of schema document rule.RequiredArguments x = required_arguments.breaks x

-- the node, which stands at the place in the list, breaks the rule
abbrev pub Breaks : SchemaParts → Document → ShapeRule → ℕ → At → Type 0
Breaks schema document rule.ExecutableDefinitions i x = IsTrue (executable_definitions.breaks x.node)
Breaks schema document rule.UniqueOperationNames i x = IsTrue (unique_operation_names.breaks x.node)
Breaks schema document rule.LoneAnonymousOperation i x = IsTrue (lone_anonymous_operation.breaks document x.node)
Breaks schema document rule.SingleRootField i x = IsTrue (single_root_field.breaks schema x.node)
Breaks schema document rule.FieldSelections i x = IsTrue (field_selections.breaks x.node)
Breaks schema document rule.FieldSelectionMerging i x = field_selection_merging.Breaks (nodes schema document) i
Breaks schema document rule.LeafFieldSelections i x = IsTrue (leaf_field_selections.breaks schema x.node)
Breaks schema document rule.ArgumentNames i x = IsTrue (argument_names.breaks x.node)
Breaks schema document rule.ArgumentUniqueness i x = IsTrue (argument_uniqueness.breaks x.node)
Breaks schema document rule.RequiredArguments i x = IsTrue (required_arguments.breaks x.node)

-- no node of the document breaks one of these rules
abbrev pub HasValidShape : SchemaParts → Document → Type 0
HasValidShape schema document = AllHold (Breaks schema document) (nodes schema document)

-- the least of these rules that is broken, at its first node
abbrev pub FirstShapeFault : SchemaParts → Document → RuleFault → Type 0
FirstShapeFault schema document fault = IsLeastFault number (Breaks schema document) (nodes schema document) fault

-- the fault of a refusal, apart from memory that ran out
abbrev pub IsShapeError : SchemaParts → Document → RuleError → Type 0
IsShapeError schema document (Fault fault) = FirstShapeFault schema document fault
IsShapeError schema document Memory = Unit {0}

-- ---- rule by rule

abbrev pub is_merging : ShapeRule → Bool
is_merging rule.ExecutableDefinitions = false
is_merging rule.UniqueOperationNames = false
is_merging rule.LoneAnonymousOperation = false
is_merging rule.SingleRootField = false
is_merging rule.FieldSelections = false
is_merging rule.FieldSelectionMerging = true
is_merging rule.LeafFieldSelections = false
is_merging rule.ArgumentNames = false
is_merging rule.ArgumentUniqueness = false
is_merging rule.RequiredArguments = false

-- the rule with the number is broken, first there
pub record IsFaultAt (schema : SchemaParts) (document : Document) (n : ℕ) (fault : RuleFault) : Type 0 where
  pub pos : Pos
  pub first : StandsFirst (Breaks schema document (rule_at n)) (nodes schema document) pos
  pub made : fault ≡ record { rule = n; pos = pos }

abbrev pub IsFaultOf : SchemaParts → Document → ℕ → RuleError → Type 0
IsFaultOf schema document n (Fault fault) = IsFaultAt schema document n fault
IsFaultOf schema document n Memory = Unit {0}
