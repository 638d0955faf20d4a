use Rattle.std.proofs.Common.{◌≡◌, drop}
use Rattle.gql_types.specs.Positions.{ty_at}
use Rattle.gql_input.specs.Coercions as common
use Rattle.gql_input.specs.Literals as spec
use Rattle.gql_input.specs.Listed.{each_literal, each_field}
use Rattle.gql_input.proofs.Turns.{joined}
use Rattle.gql_input.proofs.literal.+literal.Given as goal

abbrev pub invariant-coerce_field-loop-field : goal.invariant-coerce_field-loop-field
invariant-coerce_field-loop-field l =
    common.given_for (each_field l.schema (drop l.field-index l.fields)) l.def ≡ common.given_for (each_field l.schema l.fields) l.def

abbrev pub invariant-coerce_fields-loop-def : goal.invariant-coerce_fields-loop-def
invariant-coerce_fields-loop-def l =
    joined l.members (common.members_at spec.member (drop l.def-index l.defs) (each_field l.schema l.fields)) ≡ common.members_at spec.member l.defs (each_field l.schema l.fields)

abbrev pub invariant-coerce_items-loop-item : goal.invariant-coerce_items-loop-item
invariant-coerce_items-loop-item l =
    joined l.values (each_literal l.schema (drop l.item-index l.items) (ty_at l.at)) ≡ each_literal l.schema l.items (ty_at l.at)
