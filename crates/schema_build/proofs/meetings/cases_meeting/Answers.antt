use Rattle.std.proofs.Common.{◌∙◌, sym, Some, arith}
use Rattle.pg_base.specs.Listing.{map_at}
use Rattle.pg_base.specs.SchemaFaults.{named}
use Rattle.pg_base.specs.declared.build_fault.Origin.TheVariants as origin
use Rattle.schema_build.proofs.Looking.{met_step, met_stop}
use Rattle.schema_build.proofs.meetings.cases_meeting.Goals as goal

pub returns-then-is_some : goal.returns-then-is_some
returns-then-is_some c =
    met_stop (Some c.args.owner.now) (map_at (λ at a. named a (origin.Field c.args.ty at)) 0 c.args.cases.now)
    (λ at a. named a (origin.Field c.args.ty at)) c.args.cases.now c.loop-case.case-index c.loop-case.at c.case-item.result _ _ _
    c.loop-case-test.true c.case-item.is c.loop-case.invariant.met c.in_ok-found.ensures (sym c.is_some.ensures ∙ c.if-is_some.true)

pub loop-case-preserved : goal.loop-case-preserved
loop-case-preserved c = record {
  place = omega (arith, c.loop-case.invariant.place);
  met = met_step (Some c.args.owner.now) (map_at (λ at a. named a (origin.Field c.args.ty at)) 0 c.args.cases.now)
      (λ at a. named a (origin.Field c.args.ty at)) c.args.cases.now c.loop-case.case-index c.loop-case.at c.case-item.result _ _ _
      c.loop-case-test.true c.case-item.is c.loop-case.invariant.met c.in_ok-found.ensures (sym c.is_some.ensures ∙ c.if-is_some.false);
}
