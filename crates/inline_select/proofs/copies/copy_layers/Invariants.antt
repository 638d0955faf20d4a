use Rattle.std.proofs.Common.{◌≡◌, ◌++◌, drop}
use Rattle.inline_select.proofs.copies.copy_layers.Given as goal

abbrev pub invariant-loop-layer : goal.invariant-loop-layer
invariant-loop-layer l = l.copy ++ drop l.layer-index l.layers ≡ l.layers
