use Rattle.std.proofs.Common.{◌∙◌, ◌++◌, ap}
use Rattle.explain_text.proofs.Shown.{lines_shown}
use Rattle.explain_text.proofs.fetches.put_fetches.Goals as goal

pub returns : goal.returns
returns c =
    c.in_ok-put_steps.ensures
    ∙ ap (λ lines. c.args.out.now.items ++ lines) (lines_shown c.args.catalog.now c.args.steps.now _ (c.as_slice.ensures ∙ c.in_ok-how.ensures))
