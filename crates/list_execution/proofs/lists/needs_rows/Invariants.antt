use Rattle.std.proofs.Common.{◌≡◌, drop}
use Rattle.place_tree.specs.Exec as spec
use Rattle.list_execution.proofs.lists.needs_rows.Given as goal

abbrev pub invariant-loop-place : goal.invariant-loop-place
invariant-loop-place l = spec.needs_rows l.schema (drop l.place-index l.places) l.number ≡ spec.needs_rows l.schema l.places l.number
