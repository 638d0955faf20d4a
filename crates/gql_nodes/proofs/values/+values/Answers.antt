use Rattle.gql_nodes.proofs.Listing.{list_put, object_put}
use Rattle.gql_nodes.proofs.values.+values.Goals as goal

pub put_value-returns-in_ok-put_items-in-List : goal.put_value-returns-in_ok-put_items-in-List
put_value-returns-in_ok-put_items-in-List t c =
    list_put _ _ _ _ _ _ _ _ _ _ _ c.in-List.is c.as_slice.ensures c.item_of.ensures c.in_ok-put.ensures c.in_ok-put_items-in-List.ensures

pub put_value-returns-in_ok-put_object_fields-in-Object : goal.put_value-returns-in_ok-put_object_fields-in-Object
put_value-returns-in_ok-put_object_fields-in-Object t c =
    object_put _ _ _ _ _ _ _ _ _ _ _ c.in-Object.is c.as_slice-in-Object.ensures c.inputs_at-defs.ensures c.in_ok-put.ensures c.in_ok-put_object_fields-in-Object.ensures
