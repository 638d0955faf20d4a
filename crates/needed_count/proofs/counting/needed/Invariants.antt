use Rattle.std.proofs.Common.{◌≡◌, drop}
use Rattle.needed_count.specs.Walk as spec
use Rattle.needed_count.proofs.counting.needed.Given as goal

abbrev pub invariant-loop-place : goal.invariant-loop-place
invariant-loop-place l = spec.walked_over l.base l.vars l.walk (drop l.place-index l.places)
    ≡ spec.walked_over l.base l.vars spec.not_walked l.places
