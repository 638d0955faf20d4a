use Rattle.std.proofs.Common.{sym, ◌∙◌}
use Rattle.gql_nodes.specs.Listed.{views}
use Rattle.gql_validate.proofs.Joined.{nothing_breaks}
use Rattle.gql_validate.proofs.joined_sets.are_settled.Goals as goal

pub returns : goal.returns
returns c = λ settled. nothing_breaks (views c.args.nodes.now) c.args.heads.now c.args.slots.now (sym c.in_ok-joined.ensures ∙ settled)
