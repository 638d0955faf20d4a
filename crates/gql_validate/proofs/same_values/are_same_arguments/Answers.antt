use Rattle.std.proofs.Common.{sym, ◌∙◌}
use Rattle.gql_validate.proofs.SameRows.{arguments_same}
use Rattle.gql_validate.proofs.same_values.are_same_arguments.Goals as goal

pub returns : goal.returns
returns c = c.in_ok-same.ensures ∙ sym (arguments_same c.args.xs.now c.args.ys.now)
