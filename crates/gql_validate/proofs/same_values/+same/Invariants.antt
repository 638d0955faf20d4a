use Rattle.std.proofs.Common.{◌≡◌, ◌≤◌, ◌||◌, drop, length}
use Rattle.std.specs.Cmp.Lexicographic.{pointwise}
use Rattle.gql_validate.specs.SameLists as lists
use Rattle.gql_validate.specs.Met as known
use Rattle.gql_validate.proofs.Told.{told}
use Rattle.gql_validate.proofs.same_values.+same.Given as goal

abbrev pub invariant-are_same-loop-i : goal.invariant-are_same-loop-i
invariant-are_same-loop-i l = record {
  same : pointwise lists.same_value (drop l.i l.xs) (drop l.i l.ys) ≡ pointwise lists.same_value l.xs l.ys;
  within : l.i ≤ length l.ys;
}

abbrev pub invariant-are_same_fields-loop-x : goal.invariant-are_same_fields-loop-x
invariant-are_same_fields-loop-x l = told lists.same_field (drop l.x-index l.xs) l.ys l.met.items ≡ lists.same_fields l.xs l.ys

abbrev pub invariant-meet_fields-loop-place : goal.invariant-meet_fields-loop-place
invariant-meet_fields-loop-place l = record {
  found : (l.found || lists.is_among lists.same_field l.x (drop l.place l.ys)) ≡ lists.is_among lists.same_field l.x l.ys;
  met : known.with_met lists.same_field l.x l.met.items l.place (drop l.place l.ys)
      ≡ known.with_met lists.same_field l.x l.initial.met.items 0 l.ys;
}
