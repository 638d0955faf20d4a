use Rattle.pg_base.proofs.SameValue.{same_decides}
use Rattle.pg_base.proofs.value.Value.is_same.Goals as goal

pub returns-clause-same : goal.returns-clause-same
returns-clause-same c = same_decides _ c.args.self.now c.args.other.now c.is_same_value.ensures
