use Rattle.std.proofs.Common.{Option, option_map}
use Rattle.plan_cache.specs.declared.kept.Kept.{Kept}
use Rattle.plan_cache.specs.Shelf as spec
use Rattle.plan_cache.proofs.shelf.find_kept.Given as goal

-- the oldest of what is left is the oldest of all
abbrev pub invariant-loop-one : goal.invariant-loop-one
invariant-loop-one g l =
    (goal.iterator-loop-one g).can_next l.one-iterator ×
    (goal.iterator-loop-one g).is_finite l.one-iterator ×
    ((found : Option (Kept g.row.E.Denot))
    → spec.IsOldest (λ k. spec.key_of k.key.text k.key.operation k.key.constraints)
    (spec.asked_for l.text (option_map (λ name. name.now) l.operation) l.vars) l.one-iterator found
    → spec.IsOldest (λ k. spec.key_of k.key.text k.key.operation k.key.constraints)
    (spec.asked_for l.text (option_map (λ name. name.now) l.operation) l.vars) l.kept.items found)
