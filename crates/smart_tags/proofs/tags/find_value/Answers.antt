use Rattle.std.proofs.Common.{◌≡◌, ℕ, List, ◌∙◌, Some, drop, true, false, sym, ap}
use Rattle.std.specs.List.{before_first, after_first}
use Rattle.std.specs.Str.{bytes_eq}
use Rattle.std.proofs.lemmas.List.{take_rest}
use Rattle.smart_tags.specs.Lines.{lines, tag_lines}
use Rattle.smart_tags.specs.Tags.{is_space, first_value}
use Rattle.smart_tags.specs.Parts.{line_of, after_line}
use Rattle.smart_tags.proofs.LineFacts.{tags_more, tags_none, IsUtf8-named, others_less}
use Rattle.smart_tags.proofs.TagFacts.{value_found, value_next, value_none}
use Rattle.smart_tags.proofs.tags.find_value.Goals as goal

pub returns-then-eq-clause-value : goal.returns-then-eq-clause-value
returns-then-eq-clause-value c =
    let rest = c.tags.rest.now in
    let tag = sym c.begins_tag.ensures ∙ c.tags-test.true in
    let line = c.first_line.ensures.first ∙ ap (λ (w : List ℕ). line_of w) (take_rest rest 1) in
    let named = c.first_word.ensures.first ∙ ap (before_first is_space) line in
    let same : bytes_eq (before_first is_space (line_of (drop 1 rest))) c.args.word.now ≡ true = ap (λ (w : List ℕ). bytes_eq w c.args.word.now) (sym named) ∙ sym c.eq.ensures ∙ c.if-eq.true in
    sym (c.tags.invariant.same ∙ ap (first_value c.args.word.now) (tags_more rest tag) ∙ value_found c.args.word.now _ _ same ∙ ap (λ (w : List ℕ). Some (after_first is_space w)) (sym line) ∙ ap Some (sym c.first_word.ensures.others))

pub returns-then-eq-clause-utf8 : goal.returns-then-eq-clause-utf8
returns-then-eq-clause-utf8 c =
    let tag = sym c.begins_tag.ensures ∙ c.tags-test.true in
    c.first_word.ensures.utf8 (c.first_line.ensures.utf8 (IsUtf8-named c.tags.rest.now tag c.tags.invariant.utf8)).0

pub tags-smaller : goal.tags-smaller
tags-smaller c = others_less c.tags.rest.now (sym c.begins_tag.ensures ∙ c.tags-test.true) _ c.first_line.ensures.others

pub tags-preserved : goal.tags-preserved
tags-preserved c =
    let rest = c.tags.rest.now in
    let tag = sym c.begins_tag.ensures ∙ c.tags-test.true in
    let line = c.first_line.ensures.first ∙ ap (λ (w : List ℕ). line_of w) (take_rest rest 1) in
    let others = c.first_line.ensures.others ∙ ap (λ (w : List ℕ). after_line w) (take_rest rest 1) in
    let named = c.first_word.ensures.first ∙ ap (before_first is_space) line in
    let other : bytes_eq (before_first is_space (line_of (drop 1 rest))) c.args.word.now ≡ false = ap (λ (w : List ℕ). bytes_eq w c.args.word.now) (sym named) ∙ sym c.eq.ensures ∙ c.if-eq.false in
    record {
      utf8 = (c.first_line.ensures.utf8 (IsUtf8-named rest tag c.tags.invariant.utf8)).1;
      same = c.tags.invariant.same ∙ ap (first_value c.args.word.now) (tags_more rest tag) ∙ value_next c.args.word.now _ _ other ∙ ap (λ (w : List ℕ). first_value c.args.word.now (tag_lines (lines w))) (sym others);
    }

pub returns-clause-value : goal.returns-clause-value
returns-clause-value c =
    sym (c.tags.invariant.same ∙ ap (first_value c.args.word.now) (tags_none c.tags.rest.now (sym c.begins_tag.ensures ∙ c.tags-test.false)) ∙ value_none c.args.word.now)
