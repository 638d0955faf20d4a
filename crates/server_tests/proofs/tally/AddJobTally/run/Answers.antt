use Rattle.std.proofs.Common.{arith, refl, ℕ, ◌∷◌, [], length-append}
use Rattle.std.proofs.lemmas.List.Sums.{sum_by-append}
use Rattle.server_tests.proofs.tally.AddJobTally.run.Goals as goal

pub returns-clause-event : goal.returns-clause-event
returns-clause-event c l fits =
    let n = c.args.self.amount in let total = fits.0 in let count = fits.1 in
    let sums = sum_by-append (λ (k : ℕ). k) l (n ∷ []) in let lengths = length-append l (n ∷ []) in
    (n, (omega arith, omega arith), (omega arith, refl))
