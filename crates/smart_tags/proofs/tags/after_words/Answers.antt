use Rattle.std.proofs.Common.{List, ℕ, ◌∙◌, sym, ap}
use Rattle.std.specs.Option.{unwrap_or}
use Rattle.smart_tags.specs.Tags.{setting, last_or}
use Rattle.smart_tags.proofs.TagFacts.{settings, word_more}
use Rattle.smart_tags.proofs.tags.after_words.Goals as goal

pub words-preserved : goal.words-preserved
words-preserved c =
    let after = c.after_word-after.ensures ∙ ap (λ (w : List ℕ). unwrap_or (setting c.args.thing.now w) c.words.after) c.first_word.ensures.first in
    c.words.invariant ∙ word_more c.args.thing.now c.words.rest.now c.words.after c.after_word-after.result after
    ∙ ap (λ (w : List ℕ). last_or c.after_word-after.result (settings c.args.thing.now w)) (sym c.first_word.ensures.others)
