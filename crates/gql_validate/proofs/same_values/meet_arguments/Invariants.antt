use Rattle.std.proofs.Common.{◌≡◌, ◌||◌, drop}
use Rattle.gql_validate.specs.SameLists as lists
use Rattle.gql_validate.specs.Met as known
use Rattle.gql_validate.proofs.same_values.meet_arguments.Given as goal

abbrev pub invariant-loop-place : goal.invariant-loop-place
invariant-loop-place l = record {
  found : (l.found || lists.is_among lists.same_argument l.x (drop l.place l.ys)) ≡ lists.is_among lists.same_argument l.x l.ys;
  met : known.with_met lists.same_argument l.x l.met.items l.place (drop l.place l.ys)
      ≡ known.with_met lists.same_argument l.x l.initial.met.items 0 l.ys;
}
