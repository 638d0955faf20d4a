use Rattle.std.proofs.Common.{ap, ◌∙◌, ◌<◌, ◌≡◌, length, rules}
use Rattle.dedupe_steps.specs.Roots.{Unshown, met}
use Rattle.dedupe_steps.proofs.Passes.{put_at}
use Rattle.dedupe_steps.proofs.sights.mark_step.Goals as goal

pub returns-then-step-len-clause-marks : goal.returns-then-step-len-clause-marks
returns-then-step-len-clause-marks c k lt =
    let within : c.args.step < length c.args.marks.now = search rules in
    put_at (λ m. met m c.args.root) Unshown c.args.marks.now c.set.new.self c.args.step c.met-new.result c.set.ensures within
    (c.met-new.ensures ∙ ap (λ m. met m c.args.root) c.mark_at.ensures) k
