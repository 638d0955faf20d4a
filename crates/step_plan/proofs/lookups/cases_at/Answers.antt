use Rattle.std.proofs.Common.{ℕ, ◌^◌, ◌<◌, List, length, subst, sym}
use Rattle.step_plan.proofs.Few.{few_cases}
use Rattle.step_plan.proofs.lookups.cases_at.Goals as goal

pub returns-clause-few : goal.returns-clause-few
returns-clause-few c = subst (λ (l : List (List ℕ)). length l < 2 ^ 32) (sym c.cases_there.ensures) (few_cases c.args.schema.now c.args.ty c.know.ensures)
