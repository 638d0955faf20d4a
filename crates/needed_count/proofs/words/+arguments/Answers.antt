use Rattle.needed_count.proofs.Held.{arg_list_put, arg_object_put}
use Rattle.needed_count.proofs.words.+arguments.Goals as goal

pub put_arg-returns-in_ok-put_args-in-List : goal.put_arg-returns-in_ok-put_args-in-List
put_arg-returns-in_ok-put_args-in-List t c = arg_list_put _ _ _ _ _ _ c.in-List.is c.as_slice.ensures c.in_ok-put_number-in-List.ensures c.in_ok-put_args-in-List.ensures

pub put_arg-returns-in_ok-put_fields-in-Object : goal.put_arg-returns-in_ok-put_fields-in-Object
put_arg-returns-in_ok-put_fields-in-Object t c = arg_object_put _ _ _ _ _ _ c.in-Object.is c.as_slice-in-Object.ensures c.in_ok-put_number-in-Object.ensures c.in_ok-put_fields-in-Object.ensures
