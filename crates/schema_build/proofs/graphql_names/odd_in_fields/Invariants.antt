use Rattle.std.proofs.Common.{◌≡◌, drop, find}
use Rattle.schema_build.specs.Looking.{is_odd, names_in_fields}
use Rattle.schema_build.proofs.graphql_names.odd_in_fields.Given as goal

abbrev pub invariant-loop-field : goal.invariant-loop-field
invariant-loop-field l = find is_odd (names_in_fields (drop l.field-index l.fields)) ≡ find is_odd (names_in_fields l.fields)
