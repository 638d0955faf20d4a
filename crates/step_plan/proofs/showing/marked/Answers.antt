use Rattle.std.proofs.Common.{rules}
use Rattle.step_plan.proofs.Marks.{all_told}
use Rattle.step_plan.proofs.showing.marked.Goals as goal

pub returns : goal.returns
returns c =
    all_told c.args.schema.now c.args.places.now _ _ (search rules) c.mark_all.ensures
