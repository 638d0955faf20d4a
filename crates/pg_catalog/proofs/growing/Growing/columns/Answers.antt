use Rattle.pg_catalog.proofs.IndexFacts.{short_columns}
use Rattle.pg_catalog.proofs.growing.Growing.columns.Goals as goal
use Rattle.std.proofs.Common.{rules}

pub returns-clause-within : goal.returns-clause-within
returns-clause-within c = short_columns _ _ _ _ c.self.invariant c.in_ok-place.place _ (search rules)
