use Rattle.std.proofs.Common.{◌<◌, rules, arith}
use Rattle.gql_lex.proofs.NameBytes.{in_table}
use Rattle.gql_lex.proofs.bytes.is_name_byte.Goals as goal

pub returns : goal.returns
returns c =
    let below : c.args.byte < 256 = omega (arith, c.ranges.byte.fits) in
    search (rules, in_table)
