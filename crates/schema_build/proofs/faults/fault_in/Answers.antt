use Rattle.std.proofs.Common.{◌∙◌, sym, arith, refl}
use Rattle.schema_build.specs.Looking.{HasFew}
use Rattle.schema_build.proofs.Looking.{each_item, type_stop, type_step, types_start}
use Rattle.schema_build.proofs.faults.fault_in.Goals as goal

pub loop-t-init : goal.loop-t-init
loop-t-init c = record { place = refl; few = c.requires.few_parts; looked = types_start c.args.types.now _ c.requires.built_in }

pub overflow_add-fields : goal.overflow_add-fields
overflow_add-fields c =
    let has = (each_item HasFew c.args.types.now c.loop-t.t-index c.t-item.result c.loop-t-test.true c.t-item.is c.loop-t.invariant.few).0 in
    omega (arith, c.loop-t.invariant.looked.few, has.fields, c.field_count-fields.ensures)

pub type_fault-requires : goal.type_fault-requires
type_fault-requires c =
    (each_item HasFew c.args.types.now c.loop-t.t-index c.t-item.result c.loop-t-test.true c.t-item.is c.loop-t.invariant.few).0

pub returns-then-is_some : goal.returns-then-is_some
returns-then-is_some c =
    type_stop c.args.types.now c.loop-t.t-index c.loop-t.ty c.loop-t.fields c.t-item.result _ _ c.loop-t-test.true c.t-item.is c.loop-t.invariant.looked
    _ c.field_count-fields.ensures _ c.in_ok-found.ensures (sym c.is_some.ensures ∙ c.if-is_some.true)

pub loop-t-preserved : goal.loop-t-preserved
loop-t-preserved c = record {
  place = omega (arith, c.loop-t.invariant.place);
  few = (each_item HasFew c.args.types.now c.loop-t.t-index c.t-item.result c.loop-t-test.true c.t-item.is c.loop-t.invariant.few).1;
  looked = type_step c.args.types.now c.loop-t.t-index c.loop-t.ty c.loop-t.fields c.t-item.result _ _ c.loop-t-test.true c.t-item.is c.loop-t.invariant.looked
      _ c.field_count-fields.ensures _ c.in_ok-found.ensures (sym c.is_some.ensures ∙ c.if-is_some.false);
}
