use Rattle.std.proofs.lemmas.Result.{err_from_is_err_and}
use Rattle.pg_catalog.specs.declared.part.Part.TheVariants.{Key}
use Rattle.pg_catalog.proofs.Steps.{refused, made}
use Rattle.pg_catalog.proofs.growing.Growing.add_key.Goals as goal

pub returns-in_err-check_key : goal.returns-in_err-check_key
returns-in_err-check_key c =
    let p = err_from_is_err_and c.from_residual-in_err-check_key.result c.from_residual-in_err-check_key.ensures.1 in
    rw (p.1, p.2) (refused c.args.self (Key c.args.part.now) c.in_err-check_key.field-0.0 c.in_err-check_key.ensures)

pub returns : goal.returns
returns c = made c.args.self (Key c.args.part.now) c.in_ok-grown.grown c.in_ok-check_key.ensures c.in_ok-grown.ensures
