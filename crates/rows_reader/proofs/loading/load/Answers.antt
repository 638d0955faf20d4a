use Rattle.std.proofs.Common.{◌≡◌, List, None, length, map, sym, ap, ◌∙◌, subst}
use Rattle.pg_base.specs.declared.table_def.TableDef.{TableDef}
use Rattle.pg_base.specs.Lists.{Each}
use Rattle.rel_model.specs.declared.tables.TableRows.{TableRows}
use Rattle.ddl_reader.specs.Rows.{IsRowOf}
use Rattle.ddl_reader.specs.declared.script.RowText.{RowText}
use Rattle.rows_reader.specs.Loaded.{no_rows, opening, reference_fault}
use Rattle.rows_reader.proofs.Seats.{opening_kept}
use Rattle.rows_reader.proofs.Steps.{rows_are}
use Rattle.rows_reader.proofs.Valid.{rows_valid}
use Rattle.rows_reader.proofs.loading.load.Goals as goal

pub add_rows-requires-clause-kept : goal.add_rows-requires-clause-kept
add_rows-requires-clause-kept c =
    opening_kept c.args.catalog.now c.in_ok-lists.lists.items c.in_ok-indexes.indexes.items
    (c.in_ok-lists.ensures ∙ ap (λ (tables : List TableDef). map no_rows tables) c.tables.ensures)
    (c.in_ok-indexes.ensures.length ∙ ap (λ (tables : List TableDef). length tables) c.tables-2.ensures)
    c.in_ok-indexes.ensures.empty

pub returns-clause-valid : goal.returns-clause-valid
returns-clause-valid c =
    let rows = c.as_slice-rows.result.now in
    let begun = c.in_ok-lists.ensures ∙ ap (λ (tables : List TableDef). map no_rows tables) c.tables.ensures in
    let standing : c.deref.result.now ≡ c.add_rows.new.lists.items = c.deref.ensures.value in
    let none : reference_fault c.args.catalog.now c.add_rows.new.lists.items (opening c.args.catalog.now) rows ≡ None =
    subst (λ (lists : List TableRows). reference_fault c.args.catalog.now lists (opening c.args.catalog.now) rows ≡ None) standing c.in_ok-check_references.ensures in
    let due = rows_are c.args.catalog.now rows c.in_ok-lists.lists.items c.add_rows.new.lists.items c.from_vec.result begun c.in_ok-add_rows.ensures.lists none c.from_vec.ensures in
    let stand = subst (λ (texts : List RowText). Each (IsRowOf c.args.catalog.now) texts) (sym c.as_slice-rows.ensures) c.requires in
    rows_valid c.args.catalog.now c.know.ensures rows (record { lists = c.from_vec.result }) stand c.know_rows.ensures due
