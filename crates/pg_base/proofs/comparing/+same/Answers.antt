use Rattle.pg_base.proofs.ComparedValues.{lists_same, objects_same}
use Rattle.pg_base.proofs.comparing.+same.Goals as goal

pub is_same_value-returns-in-List-b : goal.is_same_value-returns-in-List-b
is_same_value-returns-in-List-b t c = lists_same _ _ _ _ _ _ _ c.in-List.is c.in-List-b.is c.as_slice.ensures c.as_slice-in-List-b.ensures c.are_same.ensures

pub is_same_value-returns-in-Object-b : goal.is_same_value-returns-in-Object-b
is_same_value-returns-in-Object-b t c = objects_same _ _ _ _ _ _ _ c.in-Object.is c.in-Object-b.is c.as_slice-in-Object-b.ensures c.as_slice-in-Object-b-2.ensures c.are_same_members.ensures
