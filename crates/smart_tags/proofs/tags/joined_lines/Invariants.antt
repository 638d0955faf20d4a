use Rattle.std.proofs.Common.{◌≡◌, ◌++◌, drop}
use Rattle.smart_tags.specs.Parts.{without_cr}
use Rattle.smart_tags.proofs.tags.joined_lines.Given as goal

abbrev pub invariant-loop-at : goal.invariant-loop-at
invariant-loop-at l = without_cr l.text ≡ l.joined.items ++ without_cr (drop l.at l.text)
