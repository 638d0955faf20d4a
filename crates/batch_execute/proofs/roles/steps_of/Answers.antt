use Rattle.std.proofs.Common.{ap, sym, ◌∙◌, arith}
use Rattle.batch_execute.specs.Roles.{steps_of}
use Rattle.batch_execute.proofs.StepsPut.{put_on, drop_all}
use Rattle.batch_execute.proofs.roles.steps_of.Goals as goal

pub left-init : goal.left-init
left-init c = record {
  steps = c.in_ok-steps.ensures ∙ ap (λ l. steps_of l c.args.places.now) (sym (drop_all c.args.outs.now));
  within = omega arith;
}

pub left-preserved : goal.left-preserved
left-preserved c = record {
  steps = put_on c.args.outs.now c.args.places.now c.left.left (record { place = 0; layer = 0; step = 0 }) c.left-test.true c.left.invariant.within c.left.steps.items c.put_step.new.steps.items c.left.invariant.steps c.put_step.ensures;
  within = (let h = c.left.invariant.within in omega (arith, h));
}
