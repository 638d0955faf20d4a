use Rattle.std.proofs.Common.{◌≡◌, [], None, sym, ◌∙◌, rules}
use Rattle.rel_model.specs.Picked.{passes}
use Rattle.row_tables.specs.Rows.{first}
use Rattle.row_tables.proofs.Runs.{run_found, run_passed, run_within, by_of_length}
use Rattle.row_tables.proofs.table.find_by.Goals as goal

pub returns-in-Some : goal.returns-in-Some
returns-in-Some c =
    run_found (passes c.args.places.now c.args.cells.now []) c.args.rows.now c.runs.at c.run_from-run.result.now _ c.runs.invariant.found c.run_from-run.ensures.run c.in-Some.row.now (sym c.in-Some.ensures)
    ∙ sym (by_of_length c.args.places.now c.args.cells.now c.args.rows.now (search rules))

pub runs-preserved : goal.runs-preserved
runs-preserved c =
    let none : first (passes c.args.places.now c.args.cells.now []) c.run_from-run.result.now ≡ None = search rules in
    record {
      found = run_passed (passes c.args.places.now c.args.cells.now []) c.args.rows.now c.runs.at c.run_from-run.result.now _ c.runs.invariant.found c.run_from-run.ensures.run none;
      within = run_within c.args.rows.now c.runs.at c.run_from-run.result.now (search rules) c.run_from-run.ensures.run;
    }
