use Rattle.std.proofs.Common.{length, ◌-◌, ◌≤◌, drop, ◌≡◌}
use Rattle.sql_lex.specs.Separators.{after_separators}
use Rattle.sql_lex.proofs.separators.separators_end.Given as goal

abbrev pub invariant-separators : goal.invariant-separators
invariant-separators l = record {
  from : l.fn.from ≤ l.at;
  within : l.at ≤ length l.text;
  same : after_separators (drop l.fn.from l.text) ≡ after_separators (drop l.at l.text);
}

abbrev pub decreases-separators : goal.decreases-separators
decreases-separators l = length l.text - l.at
