use Rattle.std.proofs.Common.{◌-◌, arith}
use Rattle.schema_build.proofs.Found.{found_step}
use Rattle.schema_build.proofs.places.places_of.Goals as goal

pub loop-place-preserved : goal.loop-place-preserved
loop-place-preserved c =
    record { within = omega arith; found = λ m. found_step c.args.roles.now (c.loop-place.place - 1) c.loop-place.place _ c.of.result m _ _ (omega arith) (omega arith) c.of.ensures (c.loop-place.invariant.found m) (c.in_ok-insert.ensures.updates.0 m) }
