use Rattle.std.proofs.Common.{◌≡◌, drop}
use Rattle.gql_nodes.specs.Fields as spec
use Rattle.gql_nodes.proofs.fields.field_among.Given as goal

abbrev pub invariant-loop-field : goal.invariant-loop-field
invariant-loop-field l = spec.field_among (drop l.field-index l.fields) l.name ≡ spec.field_among l.fields l.name
