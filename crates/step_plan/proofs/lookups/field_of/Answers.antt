use Rattle.step_plan.proofs.Few.{few_in}
use Rattle.step_plan.proofs.lookups.field_of.Goals as goal

pub returns-clause-few : goal.returns-clause-few
returns-clause-few c = few_in c.args.schema.now c.args.place.now c.field_there.result (λ f. f.now) c.know.ensures c.field_there.ensures
