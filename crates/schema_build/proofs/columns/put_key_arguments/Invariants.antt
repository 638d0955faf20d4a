use Rattle.std.proofs.Common.{◌≡◌, ◌++◌, drop, true, map}
use Rattle.pg_base.specs.Lookups.{column_at}
use Rattle.pg_base.specs.ColumnFields as spec
use Rattle.schema_build.proofs.columns.put_key_arguments.Given as goal

abbrev pub invariant-loop-place : goal.invariant-loop-place
invariant-loop-place l =
    l.args.items ++ map (λ place. spec.input_field l.types true (column_at l.t place)) (drop l.place-index l.places) ≡ l.fn.args.items ++ map (λ place. spec.input_field l.types true (column_at l.t place)) l.places
