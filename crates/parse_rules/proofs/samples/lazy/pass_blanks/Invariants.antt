use Rattle.std.proofs.Common.{◌≡◌, ◌≤◌, ◌-◌, length}
use Rattle.parse_rules.specs.Lazy.{passed}
use Rattle.parse_rules.proofs.samples.lazy.pass_blanks.Given as goal

abbrev pub invariant-loop-turn : goal.invariant-loop-turn
invariant-loop-turn l = record {
  same : passed l.fn.text ≡ passed l.rest;
  left : length l.rest ≤ l._turn-end - l._turn;
}
