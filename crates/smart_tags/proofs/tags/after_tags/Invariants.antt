use Rattle.std.proofs.Common.{length, ◌≡◌}
use Rattle.std.specs.List.{join_with_byte}
use Rattle.std.specs.Str.{IsUtf8}
use Rattle.smart_tags.specs.Lines.{lines, other_lines}
use Rattle.smart_tags.proofs.tags.after_tags.Given as goal

abbrev pub invariant-tags : goal.invariant-tags
invariant-tags l = record {
  utf8 : IsUtf8 l.rest;
  same : join_with_byte 10 (other_lines (lines l.text)) ≡ join_with_byte 10 (other_lines (lines l.rest));
}

abbrev pub decreases-tags : goal.decreases-tags
decreases-tags l = length l.rest
