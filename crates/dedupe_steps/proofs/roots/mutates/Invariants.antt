use Rattle.std.proofs.Common.{◌≡◌, drop}
use Rattle.std.specs.List.{list_any}
use Rattle.place_tree.specs.Fields.{does_of}
use Rattle.place_tree.specs.Needs.{is_mutation}
use Rattle.dedupe_steps.specs.Roots as spec
use Rattle.dedupe_steps.proofs.roots.mutates.Given as goal

abbrev pub invariant-loop-place : goal.invariant-loop-place
invariant-loop-place l = list_any (λ p. is_mutation (does_of l.schema p)) (drop l.place-index l.places) ≡ spec.mutates l.schema l.places
