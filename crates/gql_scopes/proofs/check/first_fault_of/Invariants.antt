use Rattle.std.proofs.Common.{take}
use Rattle.gql_nodes.specs.Nodes.{nodes}
use Rattle.gql_nodes.specs.Reached.{IsIn}
use Rattle.gql_nodes.specs.Rules.{Holds}
use Rattle.gql_scopes.specs.declared.rule.ScopeRule.{ScopeRule}
use Rattle.gql_scopes.specs.Scopes.{Breaks}
use Rattle.gql_scopes.proofs.check.first_fault_of.Given as goal

abbrev pub invariant-loop-rule : goal.invariant-loop-rule
invariant-loop-rule l =
    (which : ScopeRule) → IsIn (take l.rule-index l.rules) which → Holds (Breaks l.schema l.document which) (nodes l.schema l.document)
