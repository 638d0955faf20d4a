use Rattle.std.proofs.Common.{[], ◌∙◌, sym, subst}
use Rattle.std.specs.Str.{IsUtf8}
use Rattle.smart_tags.proofs.LineFacts.{joined_is, IsUtf8-without_cr}
use Rattle.smart_tags.proofs.tags.description.Goals as goal

pub of_bytes-requires : goal.of_bytes-requires
of_bytes-requires c = subst IsUtf8 (sym (c.in_ok-joined.ensures ∙ joined_is c.after_tags.result.now)) (IsUtf8-without_cr c.after_tags.result.now [] c.after_tags.ensures.utf8)
