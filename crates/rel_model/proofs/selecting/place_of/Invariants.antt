use Rattle.std.proofs.Common.{◌≡◌, ◌+◌, drop, map}
use Rattle.std.specs.List.{prefix_len}
use Rattle.rel_model.specs.Ordered.{precedes}
use Rattle.rel_model.proofs.selecting.place_of.Given as goal

abbrev pub invariant-loop-i : goal.invariant-loop-i
invariant-loop-i l = l.i + prefix_len (λ r. precedes l.order r l.row) (map (λ r. r.now) (drop l.i l.first)) ≡ prefix_len (λ r. precedes l.order r l.row) (map (λ r. r.now) l.first)
