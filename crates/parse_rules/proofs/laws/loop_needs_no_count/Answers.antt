use Rattle.std.proofs.Common.{length, arith}
use Rattle.parse_rules.proofs.While.{while_from-enough}
use Rattle.parse_rules.proofs.Until.{until_from-enough}
use Rattle.parse_rules.proofs.laws.loop_needs_no_count.Goals as goal

pub returns : goal.returns
returns g c =
    let p = g.P.Part in
    record {
      items = λ n found ts shorter le. while_from-enough p.test p.parser shorter n (length ts) found ts le (omega arith);
      closed = λ n found ts none shorter le. until_from-enough p.test p.parser none shorter n (length ts) found ts le (omega arith);
    }
