use Rattle.std.proofs.Common.{ℕ, List, ◌∷◌, ◌∙◌, drop, sym, ap}
use Rattle.std.specs.List.{filter_map}
use Rattle.std.proofs.lemmas.List.{take_rest}
use Rattle.smart_tags.specs.Lines.{lines, tag_lines}
use Rattle.smart_tags.specs.Tags.{setting, last_or, behavior_words}
use Rattle.smart_tags.specs.Parts.{line_of, after_line}
use Rattle.smart_tags.proofs.LineFacts.{tags_more, tags_none, others_less}
use Rattle.smart_tags.proofs.TagFacts.{left_on, tag_more, is_on_is}
use Rattle.smart_tags.proofs.tags.stays_on.Goals as goal

pub tags-init : goal.tags-init
tags-init c = is_on_is c.args.thing.now (tag_lines (lines c.args.text.now))

pub tags-smaller : goal.tags-smaller
tags-smaller c = others_less c.tags.rest.now (sym c.begins_tag.ensures ∙ c.tags-test.true) _ c.first_line.ensures.others

pub tags-preserved : goal.tags-preserved
tags-preserved c =
    let rest = c.tags.rest.now in
    let thing = c.args.thing.now in
    let tag = sym c.begins_tag.ensures ∙ c.tags-test.true in
    let line = c.first_line.ensures.first ∙ ap (λ (w : List ℕ). line_of w) (take_rest rest 1) in
    let others = c.first_line.ensures.others ∙ ap (λ (w : List ℕ). after_line w) (take_rest rest 1) in
    let after = c.after_tag-on.ensures ∙ ap (λ (w : List ℕ). last_or c.tags.on (filter_map (setting thing) (behavior_words (64 ∷ w)))) line in
    c.tags.invariant ∙ ap (left_on thing c.tags.on) (tags_more rest tag) ∙ tag_more thing c.tags.on c.after_tag-on.result (64 ∷ line_of (drop 1 rest)) (tag_lines (lines (after_line (drop 1 rest)))) after
    ∙ ap (λ (w : List ℕ). left_on thing c.after_tag-on.result (tag_lines (lines w))) (sym others)

pub returns : goal.returns
returns c = sym (c.tags.invariant ∙ ap (left_on c.args.thing.now c.tags.on) (tags_none c.tags.rest.now (sym c.begins_tag.ensures ∙ c.tags-test.false)))
