use Rattle.std.proofs.Common.{◌≡◌, ℕ, ◌+◌, ◌<◌, List, length, get_or, drop, replicate, refl, sym, ap, ◌∙◌, subst, arith, rules}
use Rattle.std.proofs.lemmas.Result.{err_from_is_err_and}
use Rattle.pg_base.proofs.ListSteps.{drop-item, drop-past}
use Rattle.pg_base.specs.Lists.{Each}
use Rattle.pg_base.specs.declared.table_def.LinkDef.{LinkDef}
use Rattle.ddl_reader.specs.Rows.{IsRowOf}
use Rattle.ddl_reader.specs.declared.script.RowText.{RowText}
use Rattle.rows_reader.specs.declared.fault.LoadError.{LoadError}
use Rattle.rows_reader.proofs.Grown.{Each_index}
use Rattle.rows_reader.proofs.Seats.{row_within, rows_long, list_is, same_default}
use Rattle.rows_reader.proofs.Walk.{IsWalk, passed_lt, place_lt, cells_stand, walk_stops, walk_goes_on, walk_begins, walk_ends}
use Rattle.rows_reader.proofs.references.check_references.Goals as goal

pub loop-row-init : goal.loop-row-init
loop-row-init c =
    let long = rows_long c.args.catalog.now c.args.lists.now c.args.indexes.now c.requires.kept in
    let zeros : c.in_ok-passed.passed.items ≡ replicate (length c.args.lists.now) 0 = search rules in
    walk_begins c.args.catalog.now c.args.lists.now c.args.rows.now c.in_ok-passed.passed.items (zeros ∙ ap (λ (n : ℕ). replicate n 0) (sym long)) c.requires.all

pub index-place-requires : goal.index-place-requires
index-place-requires c =
    let row = Each_index (IsRowOf c.args.catalog.now) c.args.rows.now c.loop-row.row-index c.row-item.result c.loop-row-test.true c.row-item.is c.requires.rows in
    let lt = row_within c.args.catalog.now c.row-item.result row in
    let there = drop-item c.args.rows.now c.loop-row.row-index c.row-item.result c.loop-row-test.true c.row-item.is in
    let walk = subst (λ (rest : List RowText). IsWalk c.args.catalog.now c.args.lists.now c.args.rows.now rest c.loop-row.passed.items) there c.loop-row.invariant in
    let inside = passed_lt c.args.catalog.now c.args.lists.now c.row-item.result c.args.rows.now (drop (c.loop-row.row-index + 1) c.args.rows.now) c.loop-row.passed.items walk lt in
    let long = c.loop-row.passed.ok in omega (arith, inside, long)

pub bounds-lists-table : goal.bounds-lists-table
bounds-lists-table c =
    let row = Each_index (IsRowOf c.args.catalog.now) c.args.rows.now c.loop-row.row-index c.row-item.result c.loop-row-test.true c.row-item.is c.requires.rows in
    let lt = row_within c.args.catalog.now c.row-item.result row in
    let long = rows_long c.args.catalog.now c.args.lists.now c.args.indexes.now c.requires.kept in
    omega (arith, lt, long)

pub cells_at-cells-requires : goal.cells_at-cells-requires
cells_at-cells-requires c =
    let row = Each_index (IsRowOf c.args.catalog.now) c.args.rows.now c.loop-row.row-index c.row-item.result c.loop-row-test.true c.row-item.is c.requires.rows in
    let lt = row_within c.args.catalog.now c.row-item.result row in
    let there = drop-item c.args.rows.now c.loop-row.row-index c.row-item.result c.loop-row-test.true c.row-item.is in
    let walk = subst (λ (rest : List RowText). IsWalk c.args.catalog.now c.args.lists.now c.args.rows.now rest c.loop-row.passed.items) there c.loop-row.invariant in
    let list = list_is c.args.catalog.now c.args.lists.now c.args.indexes.now c.requires.kept c.row-item.result.table lt c.index-lists-table.result c.index-lists-table.is in
    let inside = passed_lt c.args.catalog.now c.args.lists.now c.row-item.result c.args.rows.now (drop (c.loop-row.row-index + 1) c.args.rows.now) c.loop-row.passed.items walk lt in
    let place : c.index-place.result.now ≡ get_or c.loop-row.passed.items c.row-item.result.table 0 = c.index-place.ensures ∙ same_default c.loop-row.passed.items c.row-item.result.table c.index-place.result.now 0 inside in
    place_lt c.args.catalog.now c.args.lists.now c.row-item.result c.args.rows.now (drop (c.loop-row.row-index + 1) c.args.rows.now) c.loop-row.passed.items walk lt c.index-lists-table.result c.index-place.result.now list place

pub links_of-links-requires : goal.links_of-links-requires
links_of-links-requires c = Each_index (IsRowOf c.args.catalog.now) c.args.rows.now c.loop-row.row-index c.row-item.result c.loop-row-test.true c.row-item.is c.requires.rows

pub check_row-requires-clause-targets : goal.check_row-requires-clause-targets
check_row-requires-clause-targets c =
    let long = rows_long c.args.catalog.now c.args.lists.now c.args.indexes.now c.requires.kept in
    subst (λ (n : ℕ). Each (λ (l : LinkDef). l.target < n) c.links_of-links.result.now) long c.links_of-links.ensures.targets

pub returns-in_err-check_row : goal.returns-in_err-check_row
returns-in_err-check_row c =
    let p = err_from_is_err_and c.from_residual-in_err-check_row.result c.from_residual-in_err-check_row.ensures.1 in
    let e : LoadError = c.in_err-check_row.field-0.0 in
    let row = Each_index (IsRowOf c.args.catalog.now) c.args.rows.now c.loop-row.row-index c.row-item.result c.loop-row-test.true c.row-item.is c.requires.rows in
    let lt = row_within c.args.catalog.now c.row-item.result row in
    let there = drop-item c.args.rows.now c.loop-row.row-index c.row-item.result c.loop-row-test.true c.row-item.is in
    let walk = subst (λ (rest : List RowText). IsWalk c.args.catalog.now c.args.lists.now c.args.rows.now rest c.loop-row.passed.items) there c.loop-row.invariant in
    let list = list_is c.args.catalog.now c.args.lists.now c.args.indexes.now c.requires.kept c.row-item.result.table lt c.index-lists-table.result c.index-lists-table.is in
    let inside = passed_lt c.args.catalog.now c.args.lists.now c.row-item.result c.args.rows.now (drop (c.loop-row.row-index + 1) c.args.rows.now) c.loop-row.passed.items walk lt in
    let place : c.index-place.result.now ≡ get_or c.loop-row.passed.items c.row-item.result.table 0 = c.index-place.ensures ∙ same_default c.loop-row.passed.items c.row-item.result.table c.index-place.result.now 0 inside in
    let cells = cells_stand c.args.catalog.now c.args.lists.now c.row-item.result c.args.rows.now (drop (c.loop-row.row-index + 1) c.args.rows.now) c.loop-row.passed.items walk lt c.index-lists-table.result c.cells_at-cells.result.now c.index-place.result.now list place c.cells_at-cells.ensures.cells in
    rw (p.1, p.2) (walk_stops c.args.catalog.now c.args.lists.now c.row-item.result c.args.rows.now (drop (c.loop-row.row-index + 1) c.args.rows.now) c.loop-row.passed.items walk lt
    c.links_of-links.result.now c.cells_at-cells.result.now e c.links_of-links.ensures.value cells c.in_err-check_row.ensures)

pub overflow_add-place : goal.overflow_add-place
overflow_add-place c = let room = c.cells_at-cells.ensures.room in omega (arith, room)

pub index_mut-requires : goal.index_mut-requires
index_mut-requires c =
    let row = Each_index (IsRowOf c.args.catalog.now) c.args.rows.now c.loop-row.row-index c.row-item.result c.loop-row-test.true c.row-item.is c.requires.rows in
    let lt = row_within c.args.catalog.now c.row-item.result row in
    let there = drop-item c.args.rows.now c.loop-row.row-index c.row-item.result c.loop-row-test.true c.row-item.is in
    let walk = subst (λ (rest : List RowText). IsWalk c.args.catalog.now c.args.lists.now c.args.rows.now rest c.loop-row.passed.items) there c.loop-row.invariant in
    let inside = passed_lt c.args.catalog.now c.args.lists.now c.row-item.result c.args.rows.now (drop (c.loop-row.row-index + 1) c.args.rows.now) c.loop-row.passed.items walk lt in
    let long = c.loop-row.passed.ok in omega (arith, inside, long)

pub loop-row-preserved : goal.loop-row-preserved
loop-row-preserved c =
    let row = Each_index (IsRowOf c.args.catalog.now) c.args.rows.now c.loop-row.row-index c.row-item.result c.loop-row-test.true c.row-item.is c.requires.rows in
    let lt = row_within c.args.catalog.now c.row-item.result row in
    let there = drop-item c.args.rows.now c.loop-row.row-index c.row-item.result c.loop-row-test.true c.row-item.is in
    let walk = subst (λ (rest : List RowText). IsWalk c.args.catalog.now c.args.lists.now c.args.rows.now rest c.loop-row.passed.items) there c.loop-row.invariant in
    let list = list_is c.args.catalog.now c.args.lists.now c.args.indexes.now c.requires.kept c.row-item.result.table lt c.index-lists-table.result c.index-lists-table.is in
    let inside = passed_lt c.args.catalog.now c.args.lists.now c.row-item.result c.args.rows.now (drop (c.loop-row.row-index + 1) c.args.rows.now) c.loop-row.passed.items walk lt in
    let place : c.index-place.result.now ≡ get_or c.loop-row.passed.items c.row-item.result.table 0 = c.index-place.ensures ∙ same_default c.loop-row.passed.items c.row-item.result.table c.index-place.result.now 0 inside in
    let cells = cells_stand c.args.catalog.now c.args.lists.now c.row-item.result c.args.rows.now (drop (c.loop-row.row-index + 1) c.args.rows.now) c.loop-row.passed.items walk lt c.index-lists-table.result c.cells_at-cells.result.now c.index-place.result.now list place c.cells_at-cells.ensures.cells in
    walk_goes_on c.args.catalog.now c.args.lists.now c.row-item.result c.args.rows.now (drop (c.loop-row.row-index + 1) c.args.rows.now) c.loop-row.passed.items walk lt
    c.links_of-links.result.now c.cells_at-cells.result.now c.index-place.result.now _ c.links_of-links.ensures.value cells place c.in_ok-check_row.ensures refl

pub returns : goal.returns
returns c =
    let past = drop-past c.args.rows.now c.loop-row.row-index (omega arith) in
    walk_ends c.args.catalog.now c.args.lists.now c.args.rows.now c.loop-row.passed.items (subst (λ (rest : List RowText). IsWalk c.args.catalog.now c.args.lists.now c.args.rows.now rest c.loop-row.passed.items) past c.loop-row.invariant)
