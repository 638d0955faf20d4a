use Rattle.std.proofs.Common.{◌≡◌, ◌==◌, ℕ, false, rules}
use Rattle.std.specs.List.{list_any}
use Rattle.stmt_run.proofs.Planned.{not_planned}
use Rattle.stmt_run.proofs.faulty.FaultyRowsRows.run.Goals as goal

pub returns-clause-planned : goal.returns-clause-planned
returns-clause-planned c =
    let no : list_any {X = ℕ} (λ n. n == c.args.self.now.calls) c.args.self.now.failing ≡ false = search rules in
    not_planned (list_any {X = ℕ} (λ n. n == c.args.self.now.calls) c.args.self.now.failing) c.run.result no c.run.ensures.cause
