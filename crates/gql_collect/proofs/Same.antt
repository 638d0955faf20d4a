-- A number is itself.
use Rattle.std.proofs.Common.{◌≡◌, ℕ, ◌==◌, true, rules, arith}
use Rattle.std.proofs.lemmas.Grind.{common_steps}

pub same_number : (x : ℕ) → (x == x) ≡ true
same_number x = first_of (search rules, grind (arith, common_steps))
