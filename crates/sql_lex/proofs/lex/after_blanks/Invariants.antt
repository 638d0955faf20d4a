use Rattle.std.proofs.Common.{◌≡◌, ◌≤◌, ◌-◌, length, take}
use Rattle.pg_base.specs.Pos.{start, counter_after}
use Rattle.sql_lex.specs.Lex.{first_token}
use Rattle.sql_lex.proofs.lex.after_blanks.Given as goal

abbrev pub invariant-blanks : goal.invariant-blanks
invariant-blanks l = record {
  from : l.fn.from ≤ l.at;
  within : l.at ≤ length l.text;
  place : l.counter ≡ counter_after start (take l.at l.text);
  same : first_token l.text l.fn.from ≡ first_token l.text l.at;
}

abbrev pub decreases-blanks : goal.decreases-blanks
decreases-blanks l = length l.text - l.at
