use Rattle.std.proofs.Common.{ℕ, [], ◌+◌, ◌∙◌, drop, sym, ap, subst}
use Rattle.std.specs.Str.{IsUtf8}
use Rattle.std.proofs.lemmas.List.{take_rest}
use Rattle.smart_tags.proofs.TagFacts.{IsUtf8-after_first}
use Rattle.smart_tags.proofs.parts.first_word.Goals as goal

pub returns-then-at-bytes-clause-utf8 : goal.returns-then-at-bytes-clause-utf8
returns-then-at-bytes-clause-utf8 c = λ u.
    let others = take_rest c.args.bytes.now (c.first_space-at.result + 1) ∙ ap (λ (n : ℕ). drop (n + 1) c.args.bytes.now) c.first_space-at.ensures.place in
    subst IsUtf8 (sym others) (IsUtf8-after_first c.args.bytes.now [] u)
