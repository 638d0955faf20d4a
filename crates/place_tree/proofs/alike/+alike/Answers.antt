use Rattle.place_tree.proofs.Compared.{lists_alike, objects_alike}
use Rattle.place_tree.proofs.alike.+alike.Goals as goal

pub is_alike-returns-in-List-b : goal.is_alike-returns-in-List-b
is_alike-returns-in-List-b t c = lists_alike _ _ _ _ _ _ _ c.in-List.is c.in-List-b.is c.as_slice.ensures c.as_slice-in-List-b.ensures c.are_alike.ensures

pub is_alike-returns-in-Object-b : goal.is_alike-returns-in-Object-b
is_alike-returns-in-Object-b t c = objects_alike _ _ _ _ _ _ _ c.in-Object.is c.in-Object-b.is c.as_slice-in-Object-b.ensures c.as_slice-in-Object-b-2.ensures c.have_same_members.ensures
