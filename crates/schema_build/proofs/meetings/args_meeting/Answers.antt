use Rattle.std.proofs.Common.{◌∙◌, sym, subst, Some, arith}
use Rattle.pg_base.specs.Listing.{map_at}
use Rattle.pg_base.specs.SchemaFaults.{named}
use Rattle.schema_build.specs.Looking.{IsAdded, place_in}
use Rattle.schema_build.proofs.Looking.{met_step, met_stop}
use Rattle.schema_build.proofs.meetings.args_meeting.Goals as goal

pub returns-then-is_some : goal.returns-then-is_some
returns-then-is_some c =
    let added = subst (λ p. IsAdded (Some c.args.owner.now) (named c.arg-item.result.name p) c.loop-arg.names c.add_part.new.names c.in_ok-found.found)
    c.place.ensures c.in_ok-found.ensures in
    met_stop (Some c.args.owner.now) (map_at (λ at a. named a.name (place_in c.args.holder at)) 0 c.args.args.now)
    (λ at a. named a.name (place_in c.args.holder at)) c.args.args.now c.loop-arg.arg-index c.loop-arg.at c.arg-item.result _ _ _
    c.loop-arg-test.true c.arg-item.is c.loop-arg.invariant.met added (sym c.is_some.ensures ∙ c.if-is_some.true)

pub loop-arg-preserved : goal.loop-arg-preserved
loop-arg-preserved c =
    let added = subst (λ p. IsAdded (Some c.args.owner.now) (named c.arg-item.result.name p) c.loop-arg.names c.add_part.new.names c.in_ok-found.found)
    c.place.ensures c.in_ok-found.ensures in
    record {
      place = omega (arith, c.loop-arg.invariant.place);
      met = met_step (Some c.args.owner.now) (map_at (λ at a. named a.name (place_in c.args.holder at)) 0 c.args.args.now)
          (λ at a. named a.name (place_in c.args.holder at)) c.args.args.now c.loop-arg.arg-index c.loop-arg.at c.arg-item.result _ _ _
          c.loop-arg-test.true c.arg-item.is c.loop-arg.invariant.met added (sym c.is_some.ensures ∙ c.if-is_some.false);
    }
