use Rattle.std.proofs.Common.{List, Err, get_or, set, sym, refl, ap, ◌∙◌, subst, arith}
use Rattle.std.specs.Prelude.{Option}
use Rattle.std.proofs.lemmas.Result.{err_from_is_err_and}
use Rattle.pg_base.specs.declared.enum_def.EnumDef.{EnumDef}
use Rattle.pg_base.specs.declared.table_def.TableDef.{TableDef}
use Rattle.rel_model.specs.declared.tables.TableRows.{TableRows}
use Rattle.rows_reader.specs.declared.fault.LoadError.{LoadError}
use Rattle.rows_reader.specs.declared.fault.RowsFault.{RowsFault}
use Rattle.rows_reader.specs.Faults.{fault_of}
use Rattle.rows_reader.specs.Rows.{list_with, row_cells}
use Rattle.rows_reader.specs.Loaded.{Tells}
use Rattle.rows_reader.proofs.Seats.{row_within, list_lt, indexes_lt, counters_at, kept_at, table_is, list_is, there, fault_is, with_is}
use Rattle.rows_reader.proofs.Steps.{lists_kept}
use Rattle.rows_reader.proofs.loading.add_row.Goals as goal

pub index_mut-requires : goal.index_mut-requires
index_mut-requires c =
    let lt = row_within c.args.catalog.now c.args.row.now c.requires.row in
    let inside = list_lt c.args.catalog.now c.args.lists.now.items c.args.indexes.now.items c.requires.kept c.args.row.now.table lt in
    let long = c.args.lists.now.ok in omega (arith, inside, long)

pub index_mut-requires-2 : goal.index_mut-requires-2
index_mut-requires-2 c =
    let lt = row_within c.args.catalog.now c.args.row.now c.requires.row in
    let inside = indexes_lt c.args.catalog.now c.args.lists.now.items c.args.indexes.now.items c.requires.kept c.args.row.now.table lt in
    let long = c.args.indexes.now.ok in omega (arith, inside, long)

pub add-requires-clause-counters : goal.add-requires-clause-counters
add-requires-clause-counters c =
    let lt = row_within c.args.catalog.now c.args.row.now c.requires.row in
    let table = c.index-tables-at.is ∙ ap (λ (tables : List TableDef). get_or tables c.args.row.now.table c.index-tables-at.result) c.tables.ensures in
    counters_at c.args.catalog.now c.args.lists.now.items c.args.indexes.now.items c.requires.kept c.args.row.now.table lt c.index-tables-at.result c.index_mut.result.now table c.index_mut.ensures.value

pub add-requires-clause-kept : goal.add-requires-clause-kept
add-requires-clause-kept c =
    let lt = row_within c.args.catalog.now c.args.row.now c.requires.row in
    kept_at c.args.catalog.now c.args.lists.now.items c.args.indexes.now.items c.requires.kept c.args.row.now.table lt c.index_mut.result.now c.index_mut-2.result.now c.index_mut.ensures.value c.index_mut-2.ensures.value

pub returns-in_err-add-clause-fault : goal.returns-in_err-add-clause-fault
returns-in_err-add-clause-fault c =
    let p = err_from_is_err_and c.from_residual.result c.from_residual.ensures.1 in
    let e : LoadError = c.in_err-add.field-0.0 in
    let lt = row_within c.args.catalog.now c.args.row.now c.requires.row in
    let table = c.index-tables-at.is ∙ ap (λ (tables : List TableDef). get_or tables c.args.row.now.table c.index-tables-at.result) c.tables.ensures in
    let own = table_is c.args.catalog.now c.args.lists.now.items c.args.indexes.now.items c.requires.kept c.args.row.now.table lt c.index-tables-at.result table in
    let list = list_is c.args.catalog.now c.args.lists.now.items c.args.indexes.now.items c.requires.kept c.args.row.now.table lt c.index_mut.result.now c.index_mut.ensures.value in
    let same = ap (λ (enums : List EnumDef). fault_of enums c.index-tables-at.result c.index_mut.result.now c.args.row.now) c.enums-enums.ensures ∙ fault_is c.args.catalog.now c.args.lists.now.items c.args.row.now c.index-tables-at.result c.index_mut.result.now own list in
    rw (p.1, p.2) (subst (λ (fault : Option RowsFault). Tells fault (Err e)) same c.in_err-add.ensures.fault)

pub returns-clause-fault : goal.returns-clause-fault
returns-clause-fault c =
    let lt = row_within c.args.catalog.now c.args.row.now c.requires.row in
    let table = c.index-tables-at.is ∙ ap (λ (tables : List TableDef). get_or tables c.args.row.now.table c.index-tables-at.result) c.tables.ensures in
    let own = table_is c.args.catalog.now c.args.lists.now.items c.args.indexes.now.items c.requires.kept c.args.row.now.table lt c.index-tables-at.result table in
    let list = list_is c.args.catalog.now c.args.lists.now.items c.args.indexes.now.items c.requires.kept c.args.row.now.table lt c.index_mut.result.now c.index_mut.ensures.value in
    let same = ap (λ (enums : List EnumDef). fault_of enums c.index-tables-at.result c.index_mut.result.now c.args.row.now) c.enums-enums.ensures ∙ fault_is c.args.catalog.now c.args.lists.now.items c.args.row.now c.index-tables-at.result c.index_mut.result.now own list in
    sym same ∙ c.in_ok-add.ensures.fault

pub returns-clause-lists : goal.returns-clause-lists
returns-clause-lists c =
    let lt = row_within c.args.catalog.now c.args.row.now c.requires.row in
    let table = c.index-tables-at.is ∙ ap (λ (tables : List TableDef). get_or tables c.args.row.now.table c.index-tables-at.result) c.tables.ensures in
    let own = table_is c.args.catalog.now c.args.lists.now.items c.args.indexes.now.items c.requires.kept c.args.row.now.table lt c.index-tables-at.result table in
    let list = list_is c.args.catalog.now c.args.lists.now.items c.args.indexes.now.items c.requires.kept c.args.row.now.table lt c.index_mut.result.now c.index_mut.ensures.value in
    let same = c.in_ok-add.ensures.list
    ∙ ap (λ (enums : List EnumDef). list_with c.index-tables-at.result c.index_mut.result.now (row_cells enums c.index-tables-at.result c.index_mut.result.now c.args.row.now)) c.enums-enums.ensures
    ∙ with_is c.args.catalog.now c.args.lists.now.items c.args.row.now c.index-tables-at.result c.index_mut.result.now own list in
    ap (λ (l : TableRows). set c.args.lists.now.items c.args.row.now.table l) same

pub returns-clause-kept : goal.returns-clause-kept
returns-clause-kept c =
    let lt = row_within c.args.catalog.now c.args.row.now c.requires.row in
    let table = c.index-tables-at.is ∙ ap (λ (tables : List TableDef). get_or tables c.args.row.now.table c.index-tables-at.result) c.tables.ensures in
    let stands = there c.args.catalog.now c.args.lists.now.items c.args.indexes.now.items c.requires.kept c.args.row.now.table lt c.index-tables-at.result table in
    lists_kept c.args.catalog.now c.args.lists.now.items _ c.args.indexes.now.items _ c.args.row.now.table c.index-tables-at.result c.add.new.list c.add.new.indexes c.requires.kept stands refl refl c.in_ok-add.ensures.counters c.in_ok-add.ensures.kept
