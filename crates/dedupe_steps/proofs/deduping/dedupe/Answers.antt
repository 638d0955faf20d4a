use Rattle.dedupe_steps.proofs.Steady.{merge_of, renewed}
use Rattle.dedupe_steps.proofs.deduping.dedupe.Goals as goal

pub renew-requires : goal.renew-requires
renew-requires c = c.quotients_are_sound.ensures _ _ _ _ _ (merge_of c.args.draft c.in_ok-merged.merged c.requires.tree c.know.ensures c.requires.plain c.in_ok-merged.ensures)
