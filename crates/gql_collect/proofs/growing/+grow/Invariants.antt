use Rattle.std.proofs.Common.{◌≡◌, ◌≤◌, ◌+◌, ◌*◌, length, drop}
use Rattle.gql_collect.specs.Growing as spec
use Rattle.gql_collect.specs.Kept.{fields_of, request_of, grown}
use Rattle.gql_collect.proofs.growing.+grow.Given as goal

abbrev pub decreases-add_fields : goal.decreases-add_fields
decreases-add_fields l = 3 * l.levels + 2

abbrev pub decreases-add_group : goal.decreases-add_group
decreases-add_group l = 3 * l.levels + 1

abbrev pub decreases-add_below : goal.decreases-add_below
decreases-add_below l = 3 * l.levels

abbrev pub invariant-add_fields-loop-key : goal.invariant-add_fields-loop-key
invariant-add_fields-loop-key l = record {
  same :
      spec.with_keys (spec.with_set l.levels (request_of l.request)) (request_of l.request).schema l.parent l.ty (fields_of l.fields) (drop l.key-index l.key-items) (grown l.places l.asked.keys)
      ≡ spec.with_keys (spec.with_set l.levels (request_of l.request)) (request_of l.request).schema l.parent l.ty (fields_of l.fields) (spec.keys_of (fields_of l.fields)) (grown l.fn.places l.fn.asked.keys);
  few : length l.places ≤ 2000;
}
