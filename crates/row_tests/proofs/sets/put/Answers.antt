use Rattle.std.proofs.Common.{◌≡◌, Some, length, rules}
use Rattle.std.specs.List.{slice_get}
use Rattle.rel_model.specs.Tables.{IsUniqueIn}
use Rattle.row_tables.specs.Rows.{put}
use Rattle.row_tables.specs.Set.{list_at}
use Rattle.row_tests.proofs.Kept.{cells_kept, no_keys}
use Rattle.row_tests.proofs.sets.put.Goals as goal

pub with-requires-clause-cells : goal.with-requires-clause-cells
with-requires-clause-cells c =
    let def = c.in-Some.def.now in
    let there : slice_get c.args.catalog.now.tables 3 ≡ Some def = search rules in
    let same : length c.args.row.cells ≡ length def.columns = search rules in
    cells_kept def c.args.catalog.now c.args.set.now 3 there c.requires (length c.args.row.cells) same

pub with-requires-clause-keys : goal.with-requires-clause-keys
with-requires-clause-keys c =
    let def = c.in-Some.def.now in
    let there : slice_get c.args.catalog.now.tables 3 ≡ Some def = search rules in
    let none : length def.keys ≡ 0 = search rules in
    no_keys def c.args.catalog.now c.args.set.now 3 there c.requires (IsUniqueIn (put c.args.row (list_at c.args.set.now 3).rows)) none
