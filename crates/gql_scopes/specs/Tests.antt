-- The rules as tests of nodes by what is gathered.
use Rattle.std.specs.Prelude.{ℕ, Bool, ◌&&◌, ◌||◌, not, is_none, List, Option, option_and_then}
use Rattle.std.specs.List.{list_any}
use Rattle.pg_base.specs.Schema.{SchemaParts}
use Rattle.gql_reader.specs.declared.tree.Document.{Document}
use Rattle.gql_types.specs.Types.{Ty, object_named}
use Rattle.gql_nodes.specs.Names.{is_among, place_in}
use Rattle.gql_nodes.specs.Nodes.{At, Node}
use Rattle.gql_nodes.specs.Sorts.{on_definition}
use Rattle.gql_nodes.specs.Uses.{as_fragment, fragment_at, variable_name}
use Rattle.gql_scopes.specs.declared.rule.ScopeRule.{ScopeRule}
use Rattle.gql_scopes.specs.declared.rule.ScopeRule.TheVariants as rule
use Rattle.gql_scopes.specs.Conditions.{if_some}
use Rattle.gql_scopes.specs.Sorts.{on_variable, on_spread, on_inline, on_value}
use Rattle.gql_scopes.specs.Tables.{TablesParts, row, has, found_variable, any_operation}
use Rattle.gql_scopes.specs.UniqueFragmentNames as unique_fragment_names
use Rattle.gql_scopes.specs.FragmentSpreadTypeExistence as fragment_spread_type_existence
use Rattle.gql_scopes.specs.FragmentsOnCompositeTypes as fragments_on_composite_types
use Rattle.gql_scopes.specs.FragmentSpreadIsPossible as fragment_spread_is_possible
use Rattle.gql_scopes.specs.ValuesOfCorrectType as values_of_correct_type
use Rattle.gql_scopes.specs.InputObjectFieldNames as input_object_field_names
use Rattle.gql_scopes.specs.InputObjectFieldUniqueness as input_object_field_uniqueness
use Rattle.gql_scopes.specs.InputObjectRequiredFields as input_object_required_fields
use Rattle.gql_scopes.specs.DirectivesAreDefined as directives_are_defined
use Rattle.gql_scopes.specs.DirectivesAreInValidLocations as directives_are_in_valid_locations
use Rattle.gql_scopes.specs.DirectivesAreUniquePerLocation as directives_are_unique_per_location
use Rattle.gql_scopes.specs.VariableUniqueness as variable_uniqueness
use Rattle.gql_scopes.specs.VariablesAreInputTypes as variables_are_input_types
use Rattle.gql_scopes.specs.AllVariableUsagesAreAllowed as all_variable_usages_are_allowed

-- no spread names the fragment
abbrev pub is_unused_fragment : TablesParts → Node → Bool
is_unused_fragment tables x =
    on_definition (λ repeated d. if_some (λ f. not (is_among f.name tables.spreads)) (as_fragment d)) x

-- there is no fragment of the name
abbrev pub spreads_undefined : TablesParts → Node → Bool
spreads_undefined tables x = on_spread (λ parent s. is_none (place_in tables.fragments s.name)) x

-- the target reaches the definition, where these aren't ordered
abbrev pub comes_back : TablesParts → ℕ → ℕ → Bool
comes_back tables within target = not tables.ordered && has (row tables.reached target) within

-- the target reaches the definition in which the spread stands
abbrev pub is_on_cycle : TablesParts → ℕ → Node → Bool
is_on_cycle tables within x = on_spread (λ parent s.
    if_some (comes_back tables within) (place_in tables.fragments s.name)) x

-- the type of the spread's fragment
abbrev pub target_type : SchemaParts → Document → TablesParts → List ℕ → Option ℕ
target_type schema document tables name = option_and_then (λ f. object_named schema f.type_condition)
    (option_and_then (fragment_at document) (place_in tables.fragments name))

-- the type of the condition isn't the parent type
abbrev pub is_impossible : SchemaParts → Document → TablesParts → Node → Bool
is_impossible schema document tables x =
    on_spread (λ parent s. fragment_spread_is_possible.differ parent (target_type schema document tables s.name)) x
    || on_inline (λ parent i. fragment_spread_is_possible.differ parent
    (option_and_then (object_named schema) i.type_condition)) x

-- an operation that reaches the place doesn't define the variable
abbrev pub is_undefined : Document → TablesParts → ℕ → List ℕ → Bool
is_undefined document tables within name =
    any_operation 0 (λ place o. has (row tables.reached place) within
    && is_none (found_variable tables place o name))
    document.definitions

abbrev pub uses_undefined : Document → TablesParts → ℕ → Node → Bool
uses_undefined document tables within x =
    on_value (λ ty kind. if_some (is_undefined document tables within) (variable_name kind)) x

-- nothing that the operation reaches uses the variable
abbrev pub is_unused_variable : TablesParts → ℕ → Node → Bool
is_unused_variable tables within x =
    on_variable (λ repeated v.
    not (list_any (λ place. is_among v.name (row tables.used place)) (row tables.reached within))) x

-- an operation that reaches the place has the variable with a type that isn't allowed there
abbrev pub is_misused : SchemaParts → Document → TablesParts → ℕ → Ty → List ℕ → Bool
is_misused schema document tables within position name =
    any_operation 0 (λ place o. has (row tables.reached place) within
    && if_some (all_variable_usages_are_allowed.is_refused schema position) (found_variable tables place o name))
    document.definitions

abbrev pub misuses : SchemaParts → Document → TablesParts → ℕ → Node → Bool
misuses schema document tables within x =
    on_value (λ ty kind. if_some (λ position.
    if_some (is_misused schema document tables within position) (variable_name kind)) ty) x

abbrev pub test_of : SchemaParts → Document → TablesParts → ScopeRule → At → Bool
test_of schema document tables rule.UniqueFragmentNames x = unique_fragment_names.breaks x.node
test_of schema document tables rule.FragmentSpreadTypeExistence x = fragment_spread_type_existence.breaks schema x.node
test_of schema document tables rule.FragmentsOnCompositeTypes x = fragments_on_composite_types.breaks schema x.node
test_of schema document tables rule.FragmentsMustBeUsed x = is_unused_fragment tables x.node
test_of schema document tables rule.FragmentSpreadTargetDefined x = spreads_undefined tables x.node
test_of schema document tables rule.FragmentSpreadsMustNotFormCycles x = is_on_cycle tables x.within x.node
test_of schema document tables rule.FragmentSpreadIsPossible x = is_impossible schema document tables x.node
test_of schema document tables rule.ValuesOfCorrectType x = values_of_correct_type.breaks schema x.node
test_of schema document tables rule.InputObjectFieldNames x = input_object_field_names.breaks x.node
test_of schema document tables rule.InputObjectFieldUniqueness x = input_object_field_uniqueness.breaks x.node
test_of schema document tables rule.InputObjectRequiredFields x = input_object_required_fields.breaks schema x.node
test_of schema document tables rule.DirectivesAreDefined x = directives_are_defined.breaks x.node
test_of schema document tables rule.DirectivesAreInValidLocations x = directives_are_in_valid_locations.breaks x.node
test_of schema document tables rule.DirectivesAreUniquePerLocation x = directives_are_unique_per_location.breaks x.node
test_of schema document tables rule.VariableUniqueness x = variable_uniqueness.breaks x.node
test_of schema document tables rule.VariablesAreInputTypes x = variables_are_input_types.breaks schema x.node
test_of schema document tables rule.AllVariableUsesDefined x = uses_undefined document tables x.within x.node
test_of schema document tables rule.AllVariablesUsed x = is_unused_variable tables x.within x.node
test_of schema document tables rule.AllVariableUsagesAreAllowed x = misuses schema document tables x.within x.node
