use Rattle.std.proofs.Common.{ℕ, List, ◌∙◌, sym, ap}
use Rattle.std.specs.List.{join_with_byte}
use Rattle.std.proofs.lemmas.List.{take_rest}
use Rattle.smart_tags.specs.Lines.{lines, other_lines}
use Rattle.smart_tags.specs.Parts.{after_line}
use Rattle.smart_tags.proofs.LineFacts.{joined_more, joined_none, IsUtf8-named, others_less}
use Rattle.smart_tags.proofs.tags.after_tags.Goals as goal

pub tags-smaller : goal.tags-smaller
tags-smaller c = others_less c.tags.rest.now (sym c.begins_tag.ensures ∙ c.tags-test.true) _ c.first_line.ensures.others

pub tags-preserved : goal.tags-preserved
tags-preserved c =
    let rest = c.tags.rest.now in
    let tag = sym c.begins_tag.ensures ∙ c.tags-test.true in
    let others = c.first_line.ensures.others ∙ ap (λ (w : List ℕ). after_line w) (take_rest rest 1) in
    record {
      utf8 = (c.first_line.ensures.utf8 (IsUtf8-named rest tag c.tags.invariant.utf8)).1;
      same = c.tags.invariant.same ∙ joined_more rest tag ∙ ap (λ (w : List ℕ). join_with_byte 10 (other_lines (lines w))) (sym others);
    }

pub returns-clause-joined : goal.returns-clause-joined
returns-clause-joined c = c.tags.invariant.same ∙ joined_none c.tags.rest.now (sym c.begins_tag.ensures ∙ c.tags-test.false)
