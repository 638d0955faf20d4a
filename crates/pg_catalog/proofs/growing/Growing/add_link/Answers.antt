use Rattle.std.proofs.lemmas.Result.{err_from_is_err_and}
use Rattle.pg_catalog.specs.declared.part.Part.TheVariants.{Link}
use Rattle.pg_catalog.proofs.Steps.{refused, made}
use Rattle.pg_catalog.proofs.growing.Growing.add_link.Goals as goal

pub returns-in_err-check_link : goal.returns-in_err-check_link
returns-in_err-check_link c =
    let p = err_from_is_err_and c.from_residual-in_err-check_link.result c.from_residual-in_err-check_link.ensures.1 in
    rw (p.1, p.2) (refused c.args.self (Link c.args.part.now) c.in_err-check_link.field-0.0 c.in_err-check_link.ensures)

pub returns : goal.returns
returns c = made c.args.self (Link c.args.part.now) c.in_ok-grown.grown c.in_ok-check_link.ensures c.in_ok-grown.ensures
