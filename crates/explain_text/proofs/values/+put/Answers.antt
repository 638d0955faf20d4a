use Rattle.std.proofs.lemmas.Result.{on_ok_weaker}
use Rattle.explain_text.proofs.Rows.{list_written, object_written}
use Rattle.explain_text.proofs.values.+put.Goals as goal

pub put_value-returns-in-List : goal.put_value-returns-in-List
put_value-returns-in-List t c =
    on_ok_weaker c.put_list.result (list_written _ _ _ _ _ c.in-List.is c.as_slice.ensures) c.put_list.ensures

pub put_value-returns-in-Object : goal.put_value-returns-in-Object
put_value-returns-in-Object t c =
    on_ok_weaker c.put_object.result (object_written _ _ _ _ _ c.in-Object.is c.as_slice-in-Object.ensures) c.put_object.ensures
