use Rattle.std.proofs.Common.{◌≡◌, Some, ◌∙◌, rules, to_z, of_z, w64}
use Rattle.rows_reader.proofs.Written.{bigint_reads, bigint_refuses}
use Rattle.rows_reader.proofs.numbers.parse_bigint.Goals as goal

pub returns-in-Ok : goal.returns-in-Ok
returns-in-Ok c =
    let same : Some (to_z w64 (of_z w64 c.in-Ok.number)) ≡ Some c.in-Ok.number = search rules in
    same ∙ bigint_reads c.args.text.now c.in-Ok.number c.in-Ok.ensures.value.0

pub returns-in-Err : goal.returns-in-Err
returns-in-Err c = bigint_refuses c.args.text.now c.in-Err.ensures.value.0
