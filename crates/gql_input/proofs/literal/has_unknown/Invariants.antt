use Rattle.std.proofs.Common.{◌≡◌, drop}
use Rattle.pg_base.specs.Schema.{SchemaParts}
use Rattle.gql_input.specs.Coercions as common
use Rattle.gql_input.specs.Listed.{each_field}
use Rattle.gql_input.proofs.literal.has_unknown.Given as goal

abbrev pub invariant-loop-field : goal.invariant-loop-field
invariant-loop-field l =
    (schema : SchemaParts) → common.has_unknown l.defs (each_field schema (drop l.field-index l.fields)) ≡ common.has_unknown l.defs (each_field schema l.fields)
