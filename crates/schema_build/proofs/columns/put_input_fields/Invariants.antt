use Rattle.std.proofs.Common.{◌≡◌, ◌++◌, drop, flat_map}
use Rattle.std.specs.Prelude.{◌&&◌}
use Rattle.pg_base.specs.Listing.{when}
use Rattle.pg_base.specs.Behaviors as behaviors
use Rattle.pg_base.specs.ColumnFields as spec
use Rattle.schema_build.proofs.columns.put_input_fields.Given as goal

abbrev pub invariant-loop-c : goal.invariant-loop-c
invariant-loop-c l =
    l.args.items ++ flat_map (λ c. when (behaviors.is_on l.behavior c.tags) (spec.input_field l.types (l.creates && spec.must_be_given c) c)) (drop l.c-index l.columns)
    ≡ l.fn.args.items ++ flat_map (λ c. when (behaviors.is_on l.behavior c.tags) (spec.input_field l.types (l.creates && spec.must_be_given c) c)) l.columns
