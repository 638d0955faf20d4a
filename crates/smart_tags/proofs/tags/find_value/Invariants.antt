use Rattle.std.proofs.Common.{length, ◌≡◌}
use Rattle.std.specs.Str.{IsUtf8}
use Rattle.smart_tags.specs.Lines.{lines, tag_lines}
use Rattle.smart_tags.specs.Tags.{first_value}
use Rattle.smart_tags.proofs.tags.find_value.Given as goal

abbrev pub invariant-tags : goal.invariant-tags
invariant-tags l = record {
  utf8 : IsUtf8 l.rest;
  same : first_value l.word (tag_lines (lines l.text)) ≡ first_value l.word (tag_lines (lines l.rest));
}

abbrev pub decreases-tags : goal.decreases-tags
decreases-tags l = length l.rest
