use Rattle.std.proofs.Common.{◌≡◌, ◌++◌, drop, length}
use Rattle.explain_text.specs.WayLines.{lines_by}
use Rattle.explain_text.proofs.fetches.put_steps.Given as goal

abbrev pub invariant-loop-step : goal.invariant-loop-step
invariant-loop-step l =
    l.out.items ++ lines_by l.catalog (drop (length l.yielded) l.steps) (drop (length l.yielded) l.how)
    ≡ l.initial.out.items ++ lines_by l.catalog l.steps l.how
