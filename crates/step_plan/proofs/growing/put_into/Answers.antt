use Rattle.std.proofs.Common.{◌≤◌, length, arith}
use Rattle.step_plan.proofs.Puts.{put_past}
use Rattle.step_plan.proofs.growing.put_into.Goals as goal

pub returns-then-layer-len : goal.returns-then-layer-len
returns-then-layer-len c =
    let past : length c.args.layers.now.items ≤ c.args.layer = omega arith in
    put_past c.args.layers.now.items c.args.layer c.args.step past
