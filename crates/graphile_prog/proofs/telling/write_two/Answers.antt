use Rattle.std.proofs.Common.{rules}
use Rattle.graphile_prog.proofs.Delivery.{delivered_then}
use Rattle.graphile_prog.proofs.telling.write_two.Goals as goal

pub returns-in_err-write_all-2-clause-bytes : goal.returns-in_err-write_all-2-clause-bytes
returns-in_err-write_all-2-clause-bytes g c =
    let d = delivered_then _ _ _ _ _ _ c.in_ok-write_all.ensures.bytes c.in_err-write_all-2.ensures.bytes in
    search rules
