use Rattle.list_execution.proofs.Held.{null_in_list, null_in_object}
use Rattle.list_execution.proofs.nulls.+nulls.Goals as goal

pub has_null-returns-in-List : goal.has_null-returns-in-List
has_null-returns-in-List t c =
    null_in_list c.args.schema.now c.args.ty c.item_type.result c.args.value.now _ _ _ c.in-List.is c.as_slice.ensures c.item_type.ensures c.some_has_null.ensures

pub has_null-returns-in-Object : goal.has_null-returns-in-Object
has_null-returns-in-Object t c =
    null_in_object c.args.schema.now c.args.ty c.args.value.now _ _ _ _ c.in-Object.is c.as_slice-in-Object.ensures c.inputs_at.ensures c.member_has_null.ensures
