-- The rules on shapes and those on scopes together.
use Rattle.std.proofs.Common.{◌<◌, ◌≤◌, arith}
use Rattle.pg_base.specs.Schema.{SchemaParts}
use Rattle.gql_reader.specs.declared.tree.Document.{Document}
use Rattle.gql_nodes.specs.declared.fault.RuleFault.{RuleFault}
use Rattle.gql_nodes.specs.declared.fault.RuleError.{RuleError}
use Rattle.gql_nodes.specs.declared.fault.RuleError.TheVariants as error
use Rattle.gql_nodes.specs.Nodes.{nodes}
use Rattle.gql_nodes.specs.Rules.{Holds}
use Rattle.gql_validate.specs.declared.rule.ShapeRule.{ShapeRule}
use Rattle.gql_validate.specs.declared.rule.ShapeRule.TheVariants as shape
use Rattle.gql_validate.specs.Shapes as shapes
use Rattle.gql_scopes.specs.declared.rule.ScopeRule.{ScopeRule}
use Rattle.gql_scopes.specs.declared.rule.ScopeRule.TheVariants as scope
use Rattle.gql_scopes.specs.Scopes as scopes
use Rattle.gql_rules.specs.Rules.{Rule, on_shapes, on_scopes, number, Breaks, IsValidDocument, FirstRuleFault, IsRuleError}

pub at_most : (r : ShapeRule) → shapes.number r ≤ 10
at_most shape.ExecutableDefinitions = omega arith
at_most shape.UniqueOperationNames = omega arith
at_most shape.LoneAnonymousOperation = omega arith
at_most shape.SingleRootField = omega arith
at_most shape.FieldSelections = omega arith
at_most shape.FieldSelectionMerging = omega arith
at_most shape.LeafFieldSelections = omega arith
at_most shape.ArgumentNames = omega arith
at_most shape.ArgumentUniqueness = omega arith
at_most shape.RequiredArguments = omega arith

pub at_least : (r : ScopeRule) → 11 ≤ scopes.number r
at_least scope.UniqueFragmentNames = omega arith
at_least scope.FragmentSpreadTypeExistence = omega arith
at_least scope.FragmentsOnCompositeTypes = omega arith
at_least scope.FragmentsMustBeUsed = omega arith
at_least scope.FragmentSpreadTargetDefined = omega arith
at_least scope.FragmentSpreadsMustNotFormCycles = omega arith
at_least scope.FragmentSpreadIsPossible = omega arith
at_least scope.ValuesOfCorrectType = omega arith
at_least scope.InputObjectFieldNames = omega arith
at_least scope.InputObjectFieldUniqueness = omega arith
at_least scope.InputObjectRequiredFields = omega arith
at_least scope.DirectivesAreDefined = omega arith
at_least scope.DirectivesAreInValidLocations = omega arith
at_least scope.DirectivesAreUniquePerLocation = omega arith
at_least scope.VariableUniqueness = omega arith
at_least scope.VariablesAreInputTypes = omega arith
at_least scope.AllVariableUsesDefined = omega arith
at_least scope.AllVariablesUsed = omega arith
at_least scope.AllVariableUsagesAreAllowed = omega arith

pub both_hold : (schema : SchemaParts) (document : Document) → shapes.HasValidShape schema document → scopes.HasValidScopes schema document → IsValidDocument schema document
both_hold schema document a b (on_shapes r) = a r
both_hold schema document a b (on_scopes r) = b r

shape_first : (schema : SchemaParts) (document : Document) (fault : RuleFault) → shapes.FirstShapeFault schema document fault → FirstRuleFault schema document fault
shape_first schema document fault f = record { rule = on_shapes f.rule; before = earlier; pos = f.pos; first = f.first; made = f.made }
  where
    earlier : (other : Rule) → number other < number (on_shapes f.rule) → Holds (Breaks schema document other) (nodes schema document)
    earlier (on_shapes r) less = f.before r less
    earlier (on_scopes r) less = let most = at_most f.rule in let least = at_least r in absurd (omega arith)

scope_first : (schema : SchemaParts) (document : Document) (fault : RuleFault) → shapes.HasValidShape schema document → scopes.FirstScopeFault schema document fault → FirstRuleFault schema document fault
scope_first schema document fault a f = record { rule = on_scopes f.rule; before = earlier; pos = f.pos; first = f.first; made = f.made }
  where
    earlier : (other : Rule) → number other < number (on_scopes f.rule) → Holds (Breaks schema document other) (nodes schema document)
    earlier (on_shapes r) less = a r
    earlier (on_scopes r) less = f.before r less

pub shape_error : (schema : SchemaParts) (document : Document) (e : RuleError) → shapes.IsShapeError schema document e → IsRuleError schema document e
shape_error schema document (error.Fault fault) f = shape_first schema document fault f
shape_error schema document error.Memory f = tt

pub scope_error : (schema : SchemaParts) (document : Document) (e : RuleError) → shapes.HasValidShape schema document → scopes.IsScopeError schema document e → IsRuleError schema document e
scope_error schema document (error.Fault fault) a f = scope_first schema document fault a f
scope_error schema document error.Memory a f = tt
