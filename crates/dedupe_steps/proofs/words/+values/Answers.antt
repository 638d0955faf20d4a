use Rattle.dedupe_steps.proofs.Held.{value_list_put, value_object_put}
use Rattle.dedupe_steps.proofs.words.+values.Goals as goal

pub put_value-returns-in_ok-put_values-in-List : goal.put_value-returns-in_ok-put_values-in-List
put_value-returns-in_ok-put_values-in-List t c = value_list_put _ _ _ _ _ _ c.in-List.is c.as_slice.ensures c.in_ok-put_number-in-List.ensures c.in_ok-put_values-in-List.ensures

pub put_value-returns-in_ok-put_members-in-Object : goal.put_value-returns-in_ok-put_members-in-Object
put_value-returns-in_ok-put_members-in-Object t c = value_object_put _ _ _ _ _ _ c.in-Object.is c.as_slice-in-Object.ensures c.in_ok-put_number-in-Object.ensures c.in_ok-put_members-in-Object.ensures
