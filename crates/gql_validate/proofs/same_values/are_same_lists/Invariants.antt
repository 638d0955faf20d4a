use Rattle.std.proofs.Common.{◌≡◌, drop}
use Rattle.gql_validate.specs.SameLists as lists
use Rattle.gql_validate.proofs.Told.{told}
use Rattle.gql_validate.proofs.same_values.are_same_lists.Given as goal

abbrev pub invariant-loop-x : goal.invariant-loop-x
invariant-loop-x l = told lists.same_argument (drop l.x-index l.xs) l.ys l.met.items ≡ lists.same_lists l.xs l.ys
