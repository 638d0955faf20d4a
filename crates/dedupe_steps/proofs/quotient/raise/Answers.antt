use Rattle.std.proofs.Common.{ap, ◌∙◌, ◌<◌, ◌≡◌, length, false, rules}
use Rattle.std.specs.Prelude.{◌||◌}
use Rattle.dedupe_steps.proofs.Passes.{put_at}
use Rattle.dedupe_steps.proofs.quotient.raise.Goals as goal

pub returns-then-number-len-clause-flags : goal.returns-then-number-len-clause-flags
returns-then-number-len-clause-flags c k lt =
    let within : c.args.number < length c.args.flags.now = search rules in
    put_at (λ b. b || c.args.flag) false c.args.flags.now c.set.new.self c.args.number c.either-new.result c.set.ensures within
    (c.either-new.ensures ∙ ap (λ b. b || c.args.flag) c.flag_at.ensures) k
