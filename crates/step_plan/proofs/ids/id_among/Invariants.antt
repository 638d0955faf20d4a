use Rattle.std.proofs.Common.{◌≡◌, drop}
use Rattle.step_plan.specs.Added.{id_name}
use Rattle.step_plan.specs.Listed.{written_among}
use Rattle.step_plan.proofs.ids.id_among.Given as goal

abbrev pub invariant-loop-member : goal.invariant-loop-member
invariant-loop-member l = written_among (drop l.member-index l.members) id_name ≡ written_among l.members id_name
