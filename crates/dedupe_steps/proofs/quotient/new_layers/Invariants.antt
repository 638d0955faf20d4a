use Rattle.std.proofs.Common.{◌≡◌, ◌++◌, drop}
use Rattle.dedupe_steps.specs.Made as made
use Rattle.dedupe_steps.proofs.quotient.new_layers.Given as goal

abbrev pub invariant-loop-m : goal.invariant-loop-m
invariant-loop-m l = l.new ++ made.layers_made l.to l.layers l.lists l.m (drop l.m l.firsts) ≡ made.layers_made l.to l.layers l.lists 0 l.firsts
