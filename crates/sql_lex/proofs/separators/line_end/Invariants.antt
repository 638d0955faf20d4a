use Rattle.std.proofs.Common.{length, ◌-◌, ◌≤◌, drop, ◌≡◌}
use Rattle.sql_lex.specs.Separators.{after_line}
use Rattle.sql_lex.proofs.separators.line_end.Given as goal

abbrev pub invariant-line : goal.invariant-line
invariant-line l = record {
  from : l.fn.from ≤ l.at;
  within : l.at ≤ length l.text;
  same : after_line (drop l.fn.from l.text) ≡ after_line (drop l.at l.text);
}

abbrev pub decreases-line : goal.decreases-line
decreases-line l = length l.text - l.at
