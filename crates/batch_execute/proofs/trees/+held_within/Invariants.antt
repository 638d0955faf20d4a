use Rattle.batch_execute.proofs.trees.+held_within.Given as goal

abbrev pub decreases-held_within : goal.decreases-held_within
decreases-held_within l = l.left
