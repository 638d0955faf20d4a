use Rattle.std.proofs.Common.{◌+◌, drop, sym, ap, ◌∙◌, arith}
use Rattle.std.proofs.lemmas.Result.{err_from_is_err_and}
use Rattle.pg_base.proofs.ListSteps.{drop-item, drop-past}
use Rattle.ddl_reader.specs.Rows.{IsRowOf}
use Rattle.rows_reader.specs.declared.fault.LoadError.{LoadError}
use Rattle.rows_reader.specs.Loaded.{lists_after}
use Rattle.rows_reader.proofs.Grown.{Each_index}
use Rattle.rows_reader.proofs.Steps.{row_stops, row_passes, rows_end}
use Rattle.rows_reader.proofs.loading.add_rows.Goals as goal

pub add_row-requires-clause-row : goal.add_row-requires-clause-row
add_row-requires-clause-row c = Each_index (IsRowOf c.args.catalog.now) c.args.rows.now c.loop-row.row-index c.row-item.result c.loop-row-test.true c.row-item.is c.requires.rows

pub returns-in_err-add_row-clause-lists : goal.returns-in_err-add_row-clause-lists
returns-in_err-add_row-clause-lists c =
    let p = err_from_is_err_and c.from_residual.result c.from_residual.ensures.1 in
    let e : LoadError = c.in_err-add_row.field-0.0 in
    let there = drop-item c.args.rows.now c.loop-row.row-index c.row-item.result c.loop-row-test.true c.row-item.is in
    rw (p.1, p.2) (row_stops c.args.catalog.now c.loop-row.lists.items _ c.row-item.result (drop (c.loop-row.row-index + 1) c.args.rows.now) e _
    (sym (ap (lists_after c.args.catalog.now c.loop-row.lists.items) there) ∙ c.loop-row.invariant.due) c.in_err-add_row.ensures.fault)

pub loop-row-preserved : goal.loop-row-preserved
loop-row-preserved c =
    let there = drop-item c.args.rows.now c.loop-row.row-index c.row-item.result c.loop-row-test.true c.row-item.is in
    record {
      due = row_passes c.args.catalog.now c.loop-row.lists.items c.add_row.new.lists.items c.row-item.result (drop (c.loop-row.row-index + 1) c.args.rows.now) _
          (sym (ap (lists_after c.args.catalog.now c.loop-row.lists.items) there) ∙ c.loop-row.invariant.due) c.in_ok-add_row.ensures.fault c.in_ok-add_row.ensures.lists;
      kept = c.in_ok-add_row.ensures.kept;
    }

pub returns-clause-lists : goal.returns-clause-lists
returns-clause-lists c =
    rows_end c.args.catalog.now c.loop-row.lists.items _ (sym (ap (lists_after c.args.catalog.now c.loop-row.lists.items) (drop-past c.args.rows.now c.loop-row.row-index (omega arith))) ∙ c.loop-row.invariant.due)
