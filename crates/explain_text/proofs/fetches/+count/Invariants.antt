use Rattle.std.proofs.Common.{◌≡◌, ◌+◌, drop, map, sum}
use Rattle.explain_text.specs.Explained.{nodes}
use Rattle.explain_text.proofs.fetches.+count.Given as goal

abbrev pub invariant-count_children-loop-child : goal.invariant-count_children-loop-child
invariant-count_children-loop-child l =
    l.count + sum (map nodes (drop l.child-index l.children)) ≡ l.fn.before + sum (map nodes l.children)
