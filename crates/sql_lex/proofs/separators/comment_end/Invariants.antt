use Rattle.std.proofs.Common.{length, ◌-◌, ◌+◌, ◌≤◌, drop, ◌≡◌}
use Rattle.sql_lex.specs.Separators.{after_comment}
use Rattle.sql_lex.proofs.separators.comment_end.Given as goal

abbrev pub invariant-comment : goal.invariant-comment
invariant-comment l = record {
  from : l.fn.from + 2 ≤ l.at;
  within : l.at ≤ length l.text;
  deep : l.depth ≤ l.at;
  same : after_comment (drop l.fn.from l.text) 0 (drop (l.fn.from + 2) l.text) ≡ after_comment (drop l.fn.from l.text) l.depth (drop l.at l.text);
}

abbrev pub decreases-comment : goal.decreases-comment
decreases-comment l = length l.text - l.at
