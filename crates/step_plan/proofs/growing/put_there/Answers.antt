use Rattle.step_plan.proofs.Puts.{put_is}
use Rattle.step_plan.proofs.growing.put_there.Goals as goal

pub returns : goal.returns
returns c = put_is c.args.layers.now.items c.args.layer c.args.step c.index_mut.result.now c.push.new.self c.requires.inside c.index_mut.ensures.value c.in_ok-push.ensures.ok
