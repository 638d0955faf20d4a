use Rattle.std.proofs.Common.{◌++◌, ◌+◌, ◌∙◌, drop, sym, ap}
use Rattle.pg_base.proofs.ListSteps.{drop-item}
use Rattle.place_tree.specs.Events.{events_errors, path_behind}
use Rattle.response_text.specs.Paths as spec
use Rattle.response_text.proofs.Pieces.{step_errors}
use Rattle.response_text.proofs.errors.put_errors.Goals as goal

pub loop-event-preserved : goal.loop-event-preserved
loop-event-preserved c =
    let kept = c.as_slice.ensures.value in (
      c.in_ok-some.ensures (events_errors (spec.path_of c.pass.new.path.items) (drop (c.loop-event.event-index + 1) c.args.events.now))
          ∙ ap (λ l. c.loop-event.out.items ++ spec.errors_left c.loop-event.some l)
          (step_errors (spec.path_of c.as_slice.result.now) (spec.path_of c.pass.new.path.items) c.event-item.result
          (drop (c.loop-event.event-index + 1) c.args.events.now) (drop c.loop-event.event-index c.args.events.now)
          (drop-item _ _ _ c.loop-event-test.true c.event-item.is) (c.in_ok-pass.ensures.passed ∙ ap (λ p. path_behind c.event-item.result (spec.path_of p)) (sym kept)))
          ∙ ap (λ p. c.loop-event.out.items ++ spec.errors_left c.loop-event.some (events_errors (spec.path_of p) (drop c.loop-event.event-index c.args.events.now))) kept
          ∙ c.loop-event.invariant.0,
      c.in_ok-pass.ensures.below (c.loop-event.event-index + 1) c.loop-event.invariant.1,
    )
