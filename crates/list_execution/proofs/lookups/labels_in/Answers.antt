use Rattle.std.proofs.Common.{ℕ, ◌^◌, ◌<◌, List, length, subst, sym}
use Rattle.list_execution.proofs.Few.{few_labels}
use Rattle.list_execution.proofs.lookups.labels_in.Goals as goal

pub returns-clause-few : goal.returns-clause-few
returns-clause-few c = subst (λ (l : List (List ℕ)). length l < 2 ^ 32) (sym c.labels_there.ensures) (few_labels c.args.catalog.now c.args.place c.know.ensures)
