use Rattle.std.proofs.Common.{[]}
use Rattle.pg_base.specs.Lists.{Each}
use Rattle.rows_reader.specs.Kept.{IsIndexOf}
use Rattle.rows_reader.proofs.loading.indexes_of.Given as goal

abbrev pub invariant-loop-key : goal.invariant-loop-key
invariant-loop-key l = Each (IsIndexOf []) l.indexes
