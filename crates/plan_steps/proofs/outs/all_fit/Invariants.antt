use Rattle.std.proofs.Common.{◌≡◌, drop}
use Rattle.std.specs.List.{list_all}
use Rattle.plan_steps.specs.Check as spec
use Rattle.plan_steps.proofs.outs.all_fit.Given as goal

abbrev pub invariant-loop-out : goal.invariant-loop-out
invariant-loop-out l = list_all (spec.out_fits l.base l.tree l.plan) (drop l.out-index l.outs) ≡ list_all (spec.out_fits l.base l.tree l.plan) l.outs
