use Rattle.std.proofs.Common.{length, ◌-◌, ◌≡◌, ◌≤◌, ◌++◌, drop}
use Rattle.sql_lex.specs.Value as spec
use Rattle.sql_lex.proofs.value.unquoted.Given as goal

abbrev pub invariant-value : goal.invariant-value
invariant-value l = record {
  within : l.at ≤ length l.bytes;
  same : spec.unquoted l.escapes l.quote l.bytes ≡ l.value.items ++ spec.unquoted l.escapes l.quote (drop l.at l.bytes);
}

abbrev pub decreases-value : goal.decreases-value
decreases-value l = length l.bytes - l.at
