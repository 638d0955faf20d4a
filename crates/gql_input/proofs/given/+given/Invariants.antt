use Rattle.std.proofs.Common.{◌≡◌, drop}
use Rattle.serde_json.specs.View.{items_view, members_view}
use Rattle.gql_types.specs.Positions.{ty_at}
use Rattle.gql_input.specs.Coercions as common
use Rattle.gql_input.specs.Given as spec
use Rattle.gql_input.proofs.Turns.{joined}
use Rattle.gql_input.proofs.given.+given.Given as goal

abbrev pub invariant-coerce_field-loop-key : goal.invariant-coerce_field-loop-key
invariant-coerce_field-loop-key l =
    common.given_for (spec.given_fields l.schema (members_view l.key-iterator)) l.def ≡ common.given_for (spec.given_fields l.schema (members_view l.initial.key-iterator)) l.def

abbrev pub invariant-coerce_fields-loop-def : goal.invariant-coerce_fields-loop-def
invariant-coerce_fields-loop-def l =
    joined l.fields (common.members_at spec.member (drop l.def-index l.defs) (spec.given_fields l.schema (members_view l.members.entries)))
    ≡ common.members_at spec.member l.defs (spec.given_fields l.schema (members_view l.members.entries))

abbrev pub invariant-coerce_items-loop-item : goal.invariant-coerce_items-loop-item
invariant-coerce_items-loop-item l =
    joined l.values (spec.items_at l.schema (items_view (drop l.item-index l.item-items)) (ty_at l.at)) ≡ spec.items_at l.schema (items_view l.item-items) (ty_at l.at)
