-- The rules on fragments, values, directives and variables (sections 5.5 to 5.8 of the GraphQL specification, October
-- 2021), and the first fault.
use Rattle.std.specs.Prelude.{ℕ, ⊤, List, [], ◌∷◌, Option, Some, None, IsTrue}
use Rattle.pg_base.specs.Schema.{SchemaParts}
use Rattle.gql_reader.specs.declared.tree.Document.{Document}
use Rattle.gql_nodes.specs.declared.fault.RuleFault.{RuleFault}
use Rattle.gql_nodes.specs.declared.fault.RuleError.{RuleError}
use Rattle.gql_nodes.specs.declared.fault.RuleError.TheVariants as error
use Rattle.gql_nodes.specs.Nodes.{At, nodes}
use Rattle.gql_nodes.specs.Rules.{AllHold, IsLeastFault}
use Rattle.gql_scopes.specs.declared.rule.ScopeRule.{ScopeRule}
use Rattle.gql_scopes.specs.declared.rule.ScopeRule.TheVariants as rule
use Rattle.gql_scopes.specs.UniqueFragmentNames as unique_fragment_names
use Rattle.gql_scopes.specs.FragmentSpreadTypeExistence as fragment_spread_type_existence
use Rattle.gql_scopes.specs.FragmentsOnCompositeTypes as fragments_on_composite_types
use Rattle.gql_scopes.specs.FragmentsMustBeUsed as fragments_must_be_used
use Rattle.gql_scopes.specs.FragmentSpreadTargetDefined as fragment_spread_target_defined
use Rattle.gql_scopes.specs.FragmentSpreadsMustNotFormCycles as fragment_spreads_must_not_form_cycles
use Rattle.gql_scopes.specs.FragmentSpreadIsPossible as fragment_spread_is_possible
use Rattle.gql_scopes.specs.ValuesOfCorrectType as values_of_correct_type
use Rattle.gql_scopes.specs.InputObjectFieldNames as input_object_field_names
use Rattle.gql_scopes.specs.InputObjectFieldUniqueness as input_object_field_uniqueness
use Rattle.gql_scopes.specs.InputObjectRequiredFields as input_object_required_fields
use Rattle.gql_scopes.specs.DirectivesAreDefined as directives_are_defined
use Rattle.gql_scopes.specs.DirectivesAreInValidLocations as directives_are_in_valid_locations
use Rattle.gql_scopes.specs.DirectivesAreUniquePerLocation as directives_are_unique_per_location
use Rattle.gql_scopes.specs.VariableUniqueness as variable_uniqueness
use Rattle.gql_scopes.specs.VariablesAreInputTypes as variables_are_input_types
use Rattle.gql_scopes.specs.AllVariableUsesDefined as all_variable_uses_defined
use Rattle.gql_scopes.specs.AllVariablesUsed as all_variables_used
use Rattle.gql_scopes.specs.AllVariableUsagesAreAllowed as all_variable_usages_are_allowed

abbrev pub number : ScopeRule → ℕ
number rule.UniqueFragmentNames = 11
number rule.FragmentSpreadTypeExistence = 12
number rule.FragmentsOnCompositeTypes = 13
number rule.FragmentsMustBeUsed = 14
number rule.FragmentSpreadTargetDefined = 15
number rule.FragmentSpreadsMustNotFormCycles = 16
number rule.FragmentSpreadIsPossible = 17
number rule.ValuesOfCorrectType = 18
number rule.InputObjectFieldNames = 19
number rule.InputObjectFieldUniqueness = 20
number rule.InputObjectRequiredFields = 21
number rule.DirectivesAreDefined = 22
number rule.DirectivesAreInValidLocations = 23
number rule.DirectivesAreUniquePerLocation = 24
number rule.VariableUniqueness = 25
number rule.VariablesAreInputTypes = 26
number rule.AllVariableUsesDefined = 27
number rule.AllVariablesUsed = 28
number rule.AllVariableUsagesAreAllowed = 29

-- the node, which stands at the place in the list, breaks the rule
abbrev pub Breaks : SchemaParts → Document → ScopeRule → ℕ → At → Type 0
Breaks schema document rule.UniqueFragmentNames i x = IsTrue (unique_fragment_names.breaks x.node)
Breaks schema document rule.FragmentSpreadTypeExistence i x =
    IsTrue (fragment_spread_type_existence.breaks schema x.node)
Breaks schema document rule.FragmentsOnCompositeTypes i x = IsTrue (fragments_on_composite_types.breaks schema x.node)
Breaks schema document rule.FragmentsMustBeUsed i x =
    IsTrue (fragments_must_be_used.breaks (nodes schema document) x.node)
Breaks schema document rule.FragmentSpreadTargetDefined i x =
    IsTrue (fragment_spread_target_defined.breaks document x.node)
Breaks schema document rule.FragmentSpreadsMustNotFormCycles i x =
    fragment_spreads_must_not_form_cycles.Breaks document (nodes schema document) x
Breaks schema document rule.FragmentSpreadIsPossible i x =
    IsTrue (fragment_spread_is_possible.breaks schema document x.node)
Breaks schema document rule.ValuesOfCorrectType i x = IsTrue (values_of_correct_type.breaks schema x.node)
Breaks schema document rule.InputObjectFieldNames i x = IsTrue (input_object_field_names.breaks x.node)
Breaks schema document rule.InputObjectFieldUniqueness i x = IsTrue (input_object_field_uniqueness.breaks x.node)
Breaks schema document rule.InputObjectRequiredFields i x = IsTrue (input_object_required_fields.breaks schema x.node)
Breaks schema document rule.DirectivesAreDefined i x = IsTrue (directives_are_defined.breaks x.node)
Breaks schema document rule.DirectivesAreInValidLocations i x = IsTrue (directives_are_in_valid_locations.breaks x.node)
Breaks schema document rule.DirectivesAreUniquePerLocation i x =
    IsTrue (directives_are_unique_per_location.breaks x.node)
Breaks schema document rule.VariableUniqueness i x = IsTrue (variable_uniqueness.breaks x.node)
Breaks schema document rule.VariablesAreInputTypes i x = IsTrue (variables_are_input_types.breaks schema x.node)
Breaks schema document rule.AllVariableUsesDefined i x =
    all_variable_uses_defined.Breaks document (nodes schema document) x
Breaks schema document rule.AllVariablesUsed i x = all_variables_used.Breaks document (nodes schema document) x
Breaks schema document rule.AllVariableUsagesAreAllowed i x =
    all_variable_usages_are_allowed.Breaks schema document (nodes schema document) x

-- no node of the document breaks one of these rules
abbrev pub HasValidScopes : SchemaParts → Document → Type 0
HasValidScopes schema document = AllHold (Breaks schema document) (nodes schema document)

-- the least of these rules that is broken, at its first node
abbrev pub FirstScopeFault : SchemaParts → Document → RuleFault → Type 0
FirstScopeFault schema document fault = IsLeastFault number (Breaks schema document) (nodes schema document) fault

-- what is found: nothing, where each rule holds, or the first fault
abbrev pub IsChecked : SchemaParts → Document → Option RuleFault → Type 0
IsChecked schema document None = HasValidScopes schema document
IsChecked schema document (Some fault) = FirstScopeFault schema document fault

-- an error is the first fault, or that memory ran out
abbrev pub IsScopeError : SchemaParts → Document → RuleError → Type 0
IsScopeError schema document (error.Fault fault) = FirstScopeFault schema document fault
IsScopeError schema document error.Memory = ⊤

-- the rules in the order of their numbers
abbrev pub all_rules : List ScopeRule
all_rules =
    rule.UniqueFragmentNames ∷ rule.FragmentSpreadTypeExistence ∷ rule.FragmentsOnCompositeTypes
    ∷ rule.FragmentsMustBeUsed ∷ rule.FragmentSpreadTargetDefined ∷ rule.FragmentSpreadsMustNotFormCycles
    ∷ rule.FragmentSpreadIsPossible ∷ rule.ValuesOfCorrectType ∷ rule.InputObjectFieldNames
    ∷ rule.InputObjectFieldUniqueness ∷ rule.InputObjectRequiredFields ∷ rule.DirectivesAreDefined
    ∷ rule.DirectivesAreInValidLocations ∷ rule.DirectivesAreUniquePerLocation ∷ rule.VariableUniqueness
    ∷ rule.VariablesAreInputTypes ∷ rule.AllVariableUsesDefined ∷ rule.AllVariablesUsed
    ∷ rule.AllVariableUsagesAreAllowed ∷ []
