use Rattle.std.proofs.Common.{◌≡◌, option_map, drop, []}
use Rattle.gql_types.specs.Positions.{ty_if}
use Rattle.gql_nodes.specs.Listed.{views, put_each_item, put_each_field}
use Rattle.gql_nodes.proofs.values.+values.Given as goal

abbrev pub invariant-put_items-loop-item : goal.invariant-put_items-loop-item
invariant-put_items-loop-item l =
    put_each_item l.schema l.within (ty_if l.ty) (drop l.item-index l.items) (views l.out.items)
    ≡ put_each_item l.schema l.within (ty_if l.ty) l.items (views l.initial.out.items)

abbrev pub invariant-put_object_fields-loop-field : goal.invariant-put_object_fields-loop-field
invariant-put_object_fields-loop-field l =
    put_each_field l.schema l.within l.before (option_map (λ d. d.now) l.defs) (drop l.field-index l.fields) (views l.out.items)
    ≡ put_each_field l.schema l.within [] (option_map (λ d. d.now) l.defs) l.fields (views l.initial.out.items)
