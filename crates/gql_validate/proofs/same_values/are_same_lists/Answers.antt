use Rattle.std.proofs.Common.{rules, ◌≡◌, ◌∙◌, false, length, replicate, ap}
use Rattle.gql_validate.specs.SameLists as lists
use Rattle.gql_validate.proofs.Told.{told, told_all}
use Rattle.gql_validate.proofs.same_values.are_same_lists.Goals as goal

pub loop-x-init : goal.loop-x-init
loop-x-init c =
    let none : c.in_ok-met.met.items ≡ replicate (length c.args.ys.now) false = search rules in
    ap (told lists.same_argument c.args.xs.now c.args.ys.now) none ∙ told_all lists.same_argument c.args.xs.now c.args.ys.now
