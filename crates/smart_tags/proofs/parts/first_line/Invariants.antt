use Rattle.std.proofs.Common.{length, ◌-◌, ◌≡◌, ◌≤◌, ◌++◌, take, drop}
use Rattle.smart_tags.specs.Parts as spec
use Rattle.smart_tags.proofs.parts.first_line.Given as goal

abbrev pub invariant-line : goal.invariant-line
invariant-line l = record {
  within : l.at ≤ length l.text;
  first : spec.line_of l.text ≡ take l.at l.text ++ spec.line_of (drop l.at l.text);
  others : spec.after_line l.text ≡ spec.after_line (drop l.at l.text);
}

abbrev pub decreases-line : goal.decreases-line
decreases-line l = length l.text - l.at
