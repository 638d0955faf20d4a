use Rattle.std.proofs.lemmas.Result.{err_from_is_err_and}
use Rattle.pg_catalog.specs.declared.part.Part.TheVariants.{Enum}
use Rattle.pg_catalog.proofs.Steps.{refused, made}
use Rattle.pg_catalog.proofs.growing.Growing.add_enum.Goals as goal

pub returns-in_err-check_enum : goal.returns-in_err-check_enum
returns-in_err-check_enum c =
    let p = err_from_is_err_and c.from_residual.result c.from_residual.ensures.1 in
    rw (p.1, p.2) (refused c.args.self (Enum c.args.part.now) c.in_err-check_enum.field-0.0 c.in_err-check_enum.ensures)

pub returns : goal.returns
returns c = made c.args.self (Enum c.args.part.now) c.in_ok-grown.grown c.in_ok-check_enum.ensures c.in_ok-grown.ensures
