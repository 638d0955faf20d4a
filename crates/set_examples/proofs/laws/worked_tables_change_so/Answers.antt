use Rattle.std.proofs.Common.{refl}
use Rattle.rel_model.specs.Picked.{is_null, same_cell}
use Rattle.set_examples.proofs.laws.worked_tables_change_so.Goals as goal

pub returns : goal.returns
unfolding is_null same_cell
returns c = record {
  greater = refl;
  lesser = refl;
  no_number = refl;
  no_identity = refl;
  last = refl;
  in_place = refl;
  in_place_greater = refl;
  without_last = refl;
  without_first = refl;
  without_none = refl;
  by_first = refl;
  by_second = refl;
  by_other = refl;
  by_no_key = refl;
  in_no_table = refl;
  by_null = refl;
  by_two = refl;
  taken = refl;
  free = refl;
  own = refl;
  null_free = refl;
  both_columns = refl;
}
