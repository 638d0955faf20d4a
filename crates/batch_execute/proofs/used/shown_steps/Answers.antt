use Rattle.std.specs.Prelude.{slice_index_or}
use Rattle.plan_steps.specs.declared.plan.OutPlace.{OutPlace}
use Rattle.batch_execute.proofs.Passed.{shown_on, shown_step, shown_passed}
use Rattle.batch_execute.proofs.StepsPut.{item_any}
use Rattle.batch_execute.proofs.used.shown_steps.Goals as goal

pub loop-out-preserved : goal.loop-out-preserved
loop-out-preserved c =
    let i = c.loop-out.out-index in
    let lt = c.loop-out-test.true in
    let none : OutPlace = record { place = 0; layer = 0; step = 0 } in
    let o = slice_index_or c.args.outs.now i none in
    record {
      same = shown_step c.args.places.now c.args.root c.args.steps.now c.args.outs.now c.loop-out.marks.items c.mark_shown.new.marks.items o c.loop-out.invariant.same c.mark_shown.ensures;
      shown = shown_on c.args.places.now c.args.root c.args.steps.now c.args.outs.now i o lt (item_any c.args.outs.now i none o lt) c.loop-out.marks.items c.mark_shown.new.marks.items
          c.loop-out.invariant.same c.mark_shown.ensures c.loop-out.invariant.shown;
    }

pub returns-clause-shown : goal.returns-clause-shown
returns-clause-shown c = shown_passed c.args.places.now c.args.root c.args.steps.now c.args.outs.now c.loop-out.out-index c.loop-out-test.false c.loop-out.marks.items c.loop-out.invariant.shown
