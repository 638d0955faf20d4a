use Rattle.std.proofs.Common.{◌<◌, [], length, map, true, refl, rules}
use Rattle.pg_base.specs.Limits.{most_response_bytes}
use Rattle.response_text.proofs.Pieces.{next_error}
use Rattle.response_text.specs.Paths.{errors_left, part_of}
use Rattle.output_plan.specs.declared.fault.PrintFault.TheVariants as fault
use Rattle.output_plan.proofs.Objects.{stops_front}
use Rattle.output_plan.proofs.failures.put_failure.Goals as goal

pub returns-clause-text : goal.returns-clause-text
returns-clause-text c rest =
    next_error _ _ _ c.args.some c.args.message.now c.args.place.now.pos (map part_of c.args.path.now) (map part_of c.args.path.now) rest c.in_ok-put_before.ensures c.in_ok-put_error.ensures refl

pub returns-then-len-gt-MOST_RESPONSE_BYTES-clause-long : goal.returns-then-len-gt-MOST_RESPONSE_BYTES-clause-long
returns-then-len-gt-MOST_RESPONSE_BYTES-clause-long c =
    let long : most_response_bytes < length c.put_error.new.out.items = search rules in
    stops_front fault.TooLong c.put_error.new.out.items (errors_left true []) _
    (next_error _ _ _ c.args.some c.args.message.now c.args.place.now.pos (map part_of c.args.path.now) (map part_of c.args.path.now) [] c.in_ok-put_before.ensures c.in_ok-put_error.ensures refl)
    long
