use Rattle.std.proofs.Common.{◌≡◌, drop}
use Rattle.pg_catalog.specs.Added.{not_null_at}
use Rattle.pg_catalog.proofs.additions.refuse_nulls.Given as goal

abbrev pub invariant-loop-place : goal.invariant-loop-place
invariant-loop-place l = not_null_at l.columns (drop l.place-index l.places) ≡ not_null_at l.initial.columns l.places
