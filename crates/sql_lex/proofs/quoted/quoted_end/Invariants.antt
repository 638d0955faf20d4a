use Rattle.std.proofs.Common.{length, ◌-◌, ◌≤◌, drop, ◌≡◌}
use Rattle.sql_lex.specs.Quoted.{after_quoted}
use Rattle.sql_lex.proofs.quoted.quoted_end.Given as goal

abbrev pub invariant-quoted : goal.invariant-quoted
invariant-quoted l = record {
  from : l.fn.from ≤ l.at;
  within : l.at ≤ length l.text;
  same : after_quoted (drop l.whole l.text) l.escapes l.quote (drop l.fn.from l.text) ≡ after_quoted (drop l.whole l.text) l.escapes l.quote (drop l.at l.text);
}

abbrev pub decreases-quoted : goal.decreases-quoted
decreases-quoted l = length l.text - l.at
