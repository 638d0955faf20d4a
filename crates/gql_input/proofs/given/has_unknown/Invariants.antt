use Rattle.std.proofs.Common.{◌≡◌}
use Rattle.serde_json.specs.View.{members_view}
use Rattle.pg_base.specs.Schema.{SchemaParts}
use Rattle.gql_input.specs.Coercions as common
use Rattle.gql_input.specs.Given as spec
use Rattle.gql_input.proofs.given.has_unknown.Given as goal

abbrev pub invariant-loop-name : goal.invariant-loop-name
invariant-loop-name l =
    (schema : SchemaParts) → common.has_unknown l.defs (spec.given_fields schema (members_view l.name-iterator)) ≡ common.has_unknown l.defs (spec.given_fields schema (members_view l.initial.name-iterator))
