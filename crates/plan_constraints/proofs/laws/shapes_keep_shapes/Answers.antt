use Rattle.plan_constraints.proofs.Kept.{shape_keeps}
use Rattle.plan_constraints.proofs.laws.shapes_keep_shapes.Goals as goal

pub returns : goal.returns
returns c = shape_keeps
