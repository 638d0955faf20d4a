use Rattle.std.proofs.lemmas.Result.{err_from_is_err_and}
use Rattle.pg_catalog.specs.declared.part.Part.TheVariants.{Table}
use Rattle.pg_catalog.proofs.Steps.{refused, made}
use Rattle.pg_catalog.proofs.growing.Growing.add_table.Goals as goal

pub returns-in_err-check_table : goal.returns-in_err-check_table
returns-in_err-check_table c =
    let p = err_from_is_err_and c.from_residual.result c.from_residual.ensures.1 in
    rw (p.1, p.2) (refused c.args.self (Table c.args.part.now) c.in_err-check_table.field-0.0 c.in_err-check_table.ensures)

pub returns : goal.returns
returns c = made c.args.self (Table c.args.part.now) c.in_ok-grown.grown c.in_ok-check_table.ensures c.in_ok-grown.ensures
