use Rattle.std.proofs.Common.{◌∙◌, ◌<◌, ◌^◌, length, sym, subst, Some, arith}
use Rattle.pg_base.specs.Lists.{Each}
use Rattle.pg_base.specs.Listing.{map_at}
use Rattle.pg_base.specs.SchemaFaults.{field_part}
use Rattle.pg_base.proofs.ListSteps.{drop-item}
use Rattle.schema_build.specs.Looking.{HasFewArgs}
use Rattle.schema_build.proofs.Looking.{field_stop, args_stop, field_step}
use Rattle.schema_build.proofs.meetings.fields_meeting.Goals as goal

pub args_meeting-requires : goal.args_meeting-requires
args_meeting-requires c =
    let few = (subst (Each HasFewArgs) (drop-item c.args.fields.now c.loop-field.field-index c.field-item.result c.loop-field-test.true c.field-item.is) c.loop-field.invariant.few_args).0 in
    subst (λ l. length l < 2 ^ 32) (sym c.as_slice.ensures) few

pub returns-then-is_some : goal.returns-then-is_some
returns-then-is_some c =
    field_stop (Some c.args.owner.now) (map_at (field_part c.args.ty) 0 c.args.fields.now) c.args.ty c.args.fields.now c.loop-field.field-index c.loop-field.at c.field-item.result
    _ _ c.loop-field-test.true c.field-item.is c.loop-field.invariant.met _ c.in_ok-found.ensures (sym c.is_some.ensures ∙ c.if-is_some.true)

pub returns-then-is_some-2 : goal.returns-then-is_some-2
returns-then-is_some-2 c =
    args_stop (Some c.args.owner.now) (map_at (field_part c.args.ty) 0 c.args.fields.now) c.args.ty c.args.fields.now c.loop-field.field-index c.loop-field.at c.field-item.result
    _ _ c.loop-field-test.true c.field-item.is c.loop-field.invariant.met _ _ c.in_ok-found.ensures (sym c.is_some.ensures ∙ c.if-is_some.false)
    c.as_slice.result.now c.as_slice.ensures c.in_ok-found-2.ensures (sym c.is_some-in-loop-field.ensures ∙ c.if-is_some-2.true)

pub loop-field-preserved : goal.loop-field-preserved
loop-field-preserved c = record {
  place = omega (arith, c.loop-field.invariant.place);
  few_args = (subst (Each HasFewArgs) (drop-item c.args.fields.now c.loop-field.field-index c.field-item.result c.loop-field-test.true c.field-item.is) c.loop-field.invariant.few_args).1;
  met = field_step (Some c.args.owner.now) (map_at (field_part c.args.ty) 0 c.args.fields.now) c.args.ty c.args.fields.now c.loop-field.field-index c.loop-field.at c.field-item.result
      _ _ c.loop-field-test.true c.field-item.is c.loop-field.invariant.met _ _ c.in_ok-found.ensures (sym c.is_some.ensures ∙ c.if-is_some.false)
      c.as_slice.result.now c.as_slice.ensures c.in_ok-found-2.ensures (sym c.is_some-in-loop-field.ensures ∙ c.if-is_some-2.false);
}
