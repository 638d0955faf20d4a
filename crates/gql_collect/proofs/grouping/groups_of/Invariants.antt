use Rattle.std.proofs.Common.{◌≡◌, ◌++◌, ℕ, List, drop}
use Rattle.gql_collect.specs.Growing as spec
use Rattle.gql_collect.specs.Kept.{fields_of, group_in}
use Rattle.gql_collect.proofs.grouping.groups_of.Given as goal

abbrev pub invariant-loop-field : goal.invariant-loop-field
invariant-loop-field l =
    (key : List ℕ) → group_in l.groups key ++ spec.fields_with key (fields_of (drop l.field-index l.fields)) ≡ spec.fields_with key (fields_of l.fields)
