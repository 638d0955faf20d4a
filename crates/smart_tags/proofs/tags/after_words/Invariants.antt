use Rattle.std.proofs.Common.{length, ◌≡◌}
use Rattle.smart_tags.specs.Tags.{last_or}
use Rattle.smart_tags.proofs.TagFacts.{settings}
use Rattle.smart_tags.proofs.tags.after_words.Given as goal

abbrev pub invariant-words : goal.invariant-words
invariant-words l = last_or l.fn.on (settings l.thing l.words) ≡ last_or l.after (settings l.thing l.rest)

abbrev pub decreases-words : goal.decreases-words
decreases-words l = length l.rest
