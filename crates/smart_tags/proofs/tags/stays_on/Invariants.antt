use Rattle.std.proofs.Common.{length, ◌≡◌}
use Rattle.smart_tags.specs.Lines.{lines, tag_lines}
use Rattle.smart_tags.specs.Tags.{is_on}
use Rattle.smart_tags.proofs.TagFacts.{left_on}
use Rattle.smart_tags.proofs.tags.stays_on.Given as goal

abbrev pub invariant-tags : goal.invariant-tags
invariant-tags l = is_on l.thing (tag_lines (lines l.text)) ≡ left_on l.thing l.on (tag_lines (lines l.rest))

abbrev pub decreases-tags : goal.decreases-tags
decreases-tags l = length l.rest
