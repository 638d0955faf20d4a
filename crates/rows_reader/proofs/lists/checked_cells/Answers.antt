use Rattle.std.proofs.Common.{◌≡◌, ℤ, Ok, Err, List, sym, ap, ◌∙◌, subst}
use Rattle.std.proofs.lemmas.Result.{err_from_is_err_and}
use Rattle.pg_base.specs.declared.cell.Cell.{Cell}
use Rattle.pg_base.specs.declared.table_def.ColumnDef.{ColumnDef}
use Rattle.rows_reader.specs.declared.fault.LoadError.{LoadError}
use Rattle.std.specs.Prelude.{find}
use Rattle.rows_reader.specs.declared.values.Check.TheVariants as check
use Rattle.rows_reader.specs.Faults.{fails, fault_of_values, fault_of_cells}
use Rattle.rows_reader.specs.Rows.{row_cells, cells_of, slots_of}
use Rattle.rows_reader.specs.Loaded.{Tells}
use Rattle.rows_reader.proofs.Steps.{kinds_pass, values_stop, cells_stop, both_pass}
use Rattle.rows_reader.proofs.lists.checked_cells.Goals as goal

pub cells_of-requires-clause-kinds : goal.cells_of-requires-clause-kinds
cells_of-requires-clause-kinds c =
    ap (λ (columns : List ColumnDef). find (fails check.Kind c.args.enums.now) (slots_of columns c.as_slice.result.now c.args.row.now)) c.as_slice-columns.ensures
    ∙ ap (λ (counters : List ℤ). find (fails check.Kind c.args.enums.now) (slots_of c.args.table.now.columns counters c.args.row.now)) c.as_slice.ensures
    ∙ kinds_pass c.args.enums.now c.args.table.now c.args.list.now c.args.row.now c.in_ok-check_values.ensures

pub returns-in_err-check_values : goal.returns-in_err-check_values
returns-in_err-check_values c =
    let p = err_from_is_err_and c.from_residual.result c.from_residual.ensures.1 in
    let e : LoadError = c.in_err-check_values.field-0.0 in
    rw (p.1, p.2) (values_stop (fault_of_values c.args.enums.now c.args.table.now c.args.list.now c.args.row.now)
    (fault_of_cells c.args.table.now c.args.list.now c.args.row.now.pos (row_cells c.args.enums.now c.args.table.now c.args.list.now c.args.row.now))
    (Ok (row_cells c.args.enums.now c.args.table.now c.args.list.now c.args.row.now)) e c.in_err-check_values.ensures)

pub returns-in_err-check_cells : goal.returns-in_err-check_cells
returns-in_err-check_cells c =
    let made : c.as_slice-2.result.now ≡ row_cells c.args.enums.now c.args.table.now c.args.list.now c.args.row.now =
    c.as_slice-2.ensures ∙ c.in_ok-cells.ensures
    ∙ ap (λ (columns : List ColumnDef). cells_of c.args.enums.now (slots_of columns c.as_slice.result.now c.args.row.now)) c.as_slice-columns.ensures
    ∙ ap (λ (counters : List ℤ). cells_of c.args.enums.now (slots_of c.args.table.now.columns counters c.args.row.now)) c.as_slice.ensures in
    let p = err_from_is_err_and c.from_residual-in_err-check_cells.result c.from_residual-in_err-check_cells.ensures.1 in
    let e : LoadError = c.in_err-check_cells.field-0.0 in
    rw (p.1, p.2) (cells_stop (fault_of_values c.args.enums.now c.args.table.now c.args.list.now c.args.row.now)
    (fault_of_cells c.args.table.now c.args.list.now c.args.row.now.pos (row_cells c.args.enums.now c.args.table.now c.args.list.now c.args.row.now))
    (Ok (row_cells c.args.enums.now c.args.table.now c.args.list.now c.args.row.now)) e c.in_ok-check_values.ensures
    (subst (λ (cells : List Cell). Tells (fault_of_cells c.args.table.now c.args.list.now c.args.row.now.pos cells) (Err e)) made c.in_err-check_cells.ensures))

pub returns : goal.returns
returns c =
    let made : c.as_slice-2.result.now ≡ row_cells c.args.enums.now c.args.table.now c.args.list.now c.args.row.now =
    c.as_slice-2.ensures ∙ c.in_ok-cells.ensures
    ∙ ap (λ (columns : List ColumnDef). cells_of c.args.enums.now (slots_of columns c.as_slice.result.now c.args.row.now)) c.as_slice-columns.ensures
    ∙ ap (λ (counters : List ℤ). cells_of c.args.enums.now (slots_of c.args.table.now.columns counters c.args.row.now)) c.as_slice.ensures in
    both_pass (fault_of_values c.args.enums.now c.args.table.now c.args.list.now c.args.row.now)
    (fault_of_cells c.args.table.now c.args.list.now c.args.row.now.pos (row_cells c.args.enums.now c.args.table.now c.args.list.now c.args.row.now))
    (Ok (row_cells c.args.enums.now c.args.table.now c.args.list.now c.args.row.now)) c.in_ok-check_values.ensures
    (ap (λ (cells : List Cell). fault_of_cells c.args.table.now c.args.list.now c.args.row.now.pos cells) (sym made) ∙ c.in_ok-check_cells.ensures)
    ∙ ap (λ (cells : List Cell). Ok cells) (sym made ∙ c.as_slice-2.ensures)
