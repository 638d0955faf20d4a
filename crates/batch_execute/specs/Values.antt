-- The values of a plan.
use Rattle.std.specs.Prelude.{ℕ, List}
use Rattle.batch_execute.specs.declared.role.Role.{Role}
use Rattle.batch_execute.specs.Fetched.{FetchedParts}

-- what was found for each step, what each place shows of it, and the number of rows that are visited
pub record ValuesParts : Type 0 where
  pub fetched : List FetchedParts
  pub roles : List Role
  pub visited : ℕ
