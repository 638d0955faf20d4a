use Rattle.std.proofs.Common.{refl}
use Rattle.needs_examples.proofs.laws.worked_trees_need_their_statements.Goals as goal

pub returns : goal.returns
returns c = record {
  none = refl;
  rows = refl;
  number = refl;
  one_row = refl;
  twice = refl;
  twice_two = refl;
  other_arguments = refl;
  other_place = refl;
  as_written = refl;
  other_fields = refl;
  whole_list = refl;
  single = refl;
  forward = refl;
  page = refl;
  page_by_variable = refl;
  absent = refl;
  null = refl;
  page_twice = refl;
  two_pages = refl;
  page_of_page = refl;
  below_change = refl;
  two_changes = refl;
  of_second = refl;
  change_alone = refl;
}
