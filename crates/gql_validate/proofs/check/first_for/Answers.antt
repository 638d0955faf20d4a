use Rattle.std.proofs.Common.{sym, ap, ◌∙◌}
use Rattle.std.specs.Prelude.{find, option_map}
use Rattle.gql_nodes.proofs.Firsts.{stands_at}
use Rattle.gql_validate.specs.Shapes.{test_of}
use Rattle.gql_nodes.specs.Nodes.{nodes as all_nodes}
use Rattle.gql_nodes.specs.Listed.{views}
use Rattle.gql_validate.proofs.Rows.{searched, merged}
use Rattle.gql_validate.proofs.check.first_for.Goals as goal

pub returns-then-is_merging : goal.returns-then-is_merging
returns-then-is_merging c =
    merged c.args.schema.now c.args.document.now c.args.rule (views c.args.nodes.now) c.in_ok-found.found (sym c.is_merging.ensures ∙ c.if-is_merging.true) c.requires c.in_ok-found.ensures

pub returns : goal.returns
returns c =
    searched c.args.schema.now c.args.document.now c.args.rule (all_nodes c.args.schema.now c.args.document.now) c.first_breaking.result (sym c.is_merging.ensures ∙ c.if-is_merging.false)
    (c.first_breaking.ensures ∙ ap (λ l. option_map stands_at (find (λ x. test_of c.args.schema.now c.args.document.now c.args.rule x.node) l)) c.requires)
