use Rattle.std.proofs.Common.{List, length, ap, ◌∙◌}
use Rattle.std.proofs.lemmas.Result.{err_from_is_err_and}
use Rattle.pg_base.specs.declared.cell.Cell.{Cell}
use Rattle.rows_reader.specs.declared.fault.LoadError.{LoadError}
use Rattle.rows_reader.specs.Faults.{fault_of}
use Rattle.rows_reader.specs.Rows.{row_cells, list_with}
use Rattle.rows_reader.proofs.Steps.{told, told_none, has_room, cells_long, counters_more, kept_more}
use Rattle.rows_reader.proofs.lists.add.Goals as goal

pub put-requires-clause-limit : goal.put-requires-clause-limit
put-requires-clause-limit c =
    let t = told_none (fault_of c.args.enums.now c.args.table.now c.args.list.now c.args.row.now) (row_cells c.args.enums.now c.args.table.now c.args.list.now c.args.row.now) c.in_ok-cells.cells c.in_ok-cells.ensures in
    has_room c.args.enums.now c.args.table.now c.args.list.now c.args.row.now t.0

pub put-requires-clause-cells : goal.put-requires-clause-cells
put-requires-clause-cells c =
    let t = told_none (fault_of c.args.enums.now c.args.table.now c.args.list.now c.args.row.now) (row_cells c.args.enums.now c.args.table.now c.args.list.now c.args.row.now) c.in_ok-cells.cells c.in_ok-cells.ensures in
    ap (λ (l : List Cell). length l) t.1 ∙ cells_long c.args.enums.now c.args.table.now c.args.list.now c.args.row.now

pub returns-in_err-cells-clause-fault : goal.returns-in_err-cells-clause-fault
returns-in_err-cells-clause-fault c =
    let p = err_from_is_err_and c.from_residual.result c.from_residual.ensures.1 in
    let e : LoadError = c.in_err-cells.field-0.0 in
    rw (p.1, p.2) (told (fault_of c.args.enums.now c.args.table.now c.args.list.now c.args.row.now) (row_cells c.args.enums.now c.args.table.now c.args.list.now c.args.row.now) e c.in_err-cells.ensures)

pub returns-clause-fault : goal.returns-clause-fault
returns-clause-fault c =
    (told_none (fault_of c.args.enums.now c.args.table.now c.args.list.now c.args.row.now) (row_cells c.args.enums.now c.args.table.now c.args.list.now c.args.row.now) c.in_ok-cells.cells c.in_ok-cells.ensures).0

pub returns-clause-list : goal.returns-clause-list
returns-clause-list c =
    let t = told_none (fault_of c.args.enums.now c.args.table.now c.args.list.now c.args.row.now) (row_cells c.args.enums.now c.args.table.now c.args.list.now c.args.row.now) c.in_ok-cells.cells c.in_ok-cells.ensures in
    c.in_ok-put.ensures.list ∙ ap (λ (l : List Cell). list_with c.args.table.now c.args.list.now l) t.1

pub returns-clause-counters : goal.returns-clause-counters
returns-clause-counters c =
    let t = told_none (fault_of c.args.enums.now c.args.table.now c.args.list.now c.args.row.now) (row_cells c.args.enums.now c.args.table.now c.args.list.now c.args.row.now) c.in_ok-cells.cells c.in_ok-cells.ensures in
    counters_more c.args.table.now c.args.list.now c.put.new.list c.in_ok-cells.cells c.requires.counters
    (ap (λ (l : List Cell). length l) t.1 ∙ cells_long c.args.enums.now c.args.table.now c.args.list.now c.args.row.now) c.in_ok-put.ensures.list

pub returns-clause-kept : goal.returns-clause-kept
returns-clause-kept c = kept_more c.args.table.now c.args.list.now c.put.new.list c.args.indexes.now c.put.new.indexes c.in_ok-cells.cells c.requires.kept c.in_ok-put.ensures.list c.in_ok-put.ensures.indexes
