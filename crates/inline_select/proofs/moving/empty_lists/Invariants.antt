use Rattle.std.proofs.Common.{◌≡◌, ◌++◌, drop}
use Rattle.inline_select.specs.Lists as lists
use Rattle.inline_select.proofs.moving.empty_lists.Given as goal

abbrev pub invariant-loop : goal.invariant-loop
invariant-loop l = l.made.items ++ lists.empty_lists (drop l.index l.steps) ≡ lists.empty_lists l.steps
