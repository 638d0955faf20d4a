use Rattle.std.proofs.Common.{inl, ap, subst}
use Rattle.gql_nodes.specs.declared.fault.RuleError.{RuleError}
use Rattle.pg_base.specs.Schema.{SchemaParts}
use Rattle.gql_rules.specs.Rules.{FirstRuleFault, IsRuleError}
use Rattle.request_core.specs.declared.preparing.Prepared.TheVariants as prepared_is
use Rattle.request_core.proofs.preparing.with_document.Goals as goal

pub returns-in_ok-rule_refusal-in-Err-Fault : goal.returns-in_ok-rule_refusal-in-Err-Fault
returns-in_ok-rule_refusal-in-Err-Fault c =
    let read = c.args.document.now in
    let fault = c.in-Err-Fault.fault in
    let told = subst (λ (e : RuleError). IsRuleError c.schema.result.now read e) c.in-Err-Fault.field-0-is c.in-Err-Fault.ensures.fault in
    let first = subst (λ (s : SchemaParts). FirstRuleFault s read fault) c.schema.ensures told in
    inl (record { fault = fault; first = first; refused = ap prepared_is.Refused c.in_ok-rule_refusal-in-Err-Fault.ensures })
