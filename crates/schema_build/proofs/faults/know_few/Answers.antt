use Rattle.std.proofs.Common.{arith}
use Rattle.schema_build.proofs.Looking.{all_few}
use Rattle.schema_build.proofs.faults.know_few.Goals as goal

pub returns : goal.returns
returns c = record { few = omega (arith, c.know.ensures.numbered); few_parts = all_few c.args.schema.now c.know.ensures }
