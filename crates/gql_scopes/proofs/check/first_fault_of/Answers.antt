use Rattle.std.proofs.Common.{◌≡◌, ◌<◌, Some, None, length, get_or, sym, ap, subst, ◌∙◌, arith}
use Rattle.std.specs.Prelude.{find, option_map}
use Rattle.gql_nodes.specs.Nodes.{nodes, pos_of}
use Rattle.gql_scopes.specs.declared.rule.ScopeRule.TheVariants as rule
use Rattle.gql_scopes.specs.Scopes.{FirstScopeFault}
use Rattle.gql_scopes.specs.Tests.{test_of}
use Rattle.gql_scopes.proofs.Found.{found_rule}
use Rattle.gql_scopes.proofs.Chain.{chain_goes_on, chain_stops, any_default}
use Rattle.gql_scopes.proofs.check.first_fault_of.Goals as goal

pub loop-rule-preserved : goal.loop-rule-preserved
loop-rule-preserved c =
    let schema = c.args.schema.now in
    let document = c.args.document.now in
    let rules = c.args.rules.now in
    let i = c.loop-rule.rule-index in
    let r = get_or rules i rule.UniqueFragmentNames in
    let lt : i < length rules = omega arith in
    let picked : None ≡ option_map (λ x. pos_of x.node) (find (test_of schema document c.args.tables.now r) (nodes schema document)) =
    sym c.in_default.is ∙ c.first_breaking.ensures ∙ ap (λ l. option_map (λ x. pos_of x.node) (find (test_of schema document c.args.tables.now r) l)) c.requires.nodes in
    chain_goes_on schema document rules i r lt (any_default rules i rule.UniqueFragmentNames r lt) c.loop-rule.invariant (found_rule schema document c.args.tables.now c.requires.tables r None picked)

pub returns-in-loop-rule : goal.returns-in-loop-rule
returns-in-loop-rule c =
    let schema = c.args.schema.now in
    let document = c.args.document.now in
    let rules = c.args.rules.now in
    let i = c.loop-rule.rule-index in
    let r = get_or rules i rule.UniqueFragmentNames in
    let lt : i < length rules = omega arith in
    let picked : Some c.in-Some.pos ≡ option_map (λ x. pos_of x.node) (find (test_of schema document c.args.tables.now r) (nodes schema document)) =
    sym c.in-Some.is ∙ c.first_breaking.ensures ∙ ap (λ l. option_map (λ x. pos_of x.node) (find (test_of schema document c.args.tables.now r) l)) c.requires.nodes in
    subst (λ n. FirstScopeFault schema document (record { rule = n; pos = c.in-Some.pos })) (sym c.number.ensures)
    (chain_stops schema document rules i r c.in-Some.pos c.requires.rules lt (any_default rules i rule.UniqueFragmentNames r lt) c.loop-rule.invariant (found_rule schema document c.args.tables.now c.requires.tables r (Some c.in-Some.pos) picked))
