-- Valid documents, and the first fault of the others: section 5 of the GraphQL specification (October 2021). The rules
-- are those on shapes, 5.1 to 5.4, numbered from 1, and those on scopes, 5.5 to 5.8, numbered from 11.
use Rattle.std.specs.Prelude.{ℕ, ⊤}
use Rattle.pg_base.specs.Schema.{SchemaParts}
use Rattle.gql_reader.specs.declared.tree.Document.{Document}
use Rattle.gql_nodes.specs.declared.fault.RuleFault.{RuleFault}
use Rattle.gql_nodes.specs.declared.fault.RuleError.{RuleError}
use Rattle.gql_nodes.specs.declared.fault.RuleError.TheVariants as error
use Rattle.gql_nodes.specs.Nodes.{At, nodes}
use Rattle.gql_nodes.specs.Rules.{AllHold, IsLeastFault}
use Rattle.gql_validate.specs.declared.rule.ShapeRule.{ShapeRule}
use Rattle.gql_validate.specs.Shapes as shapes
use Rattle.gql_scopes.specs.declared.rule.ScopeRule.{ScopeRule}
use Rattle.gql_scopes.specs.Scopes as scopes

pub data Rule : Type 0 where
  on_shapes : ShapeRule → Rule
  on_scopes : ScopeRule → Rule

abbrev pub number : Rule → ℕ
number (on_shapes r) = shapes.number r
number (on_scopes r) = scopes.number r

-- the node, which stands at the place in the list, breaks the rule
abbrev pub Breaks : SchemaParts → Document → Rule → ℕ → At → Type 0
Breaks schema document (on_shapes r) i x = shapes.Breaks schema document r i x
Breaks schema document (on_scopes r) i x = scopes.Breaks schema document r i x

-- no node of the document breaks a rule
abbrev pub IsValidDocument : SchemaParts → Document → Type 0
IsValidDocument schema document = AllHold (Breaks schema document) (nodes schema document)

-- the least rule that is broken, at its first node
abbrev pub FirstRuleFault : SchemaParts → Document → RuleFault → Type 0
FirstRuleFault schema document fault = IsLeastFault number (Breaks schema document) (nodes schema document) fault

-- an error is the first fault, or that memory ran out
abbrev pub IsRuleError : SchemaParts → Document → RuleError → Type 0
IsRuleError schema document (error.Fault fault) = FirstRuleFault schema document fault
IsRuleError schema document error.Memory = ⊤
