use Rattle.std.proofs.Common.{◌≡◌, ◌+◌, ◌∷◌, [], ◌++◌, drop}
use Rattle.place_tree.specs.Events.{events_errors}
use Rattle.place_tree.specs.Response.{key, errors_text}
use Rattle.response_text.specs.Paths as spec
use Rattle.response_text.proofs.errors.put_errors.Given as goal

abbrev pub invariant-loop-event : goal.invariant-loop-event
invariant-loop-event l =
    (l.out.items ++ spec.errors_left l.some (events_errors (spec.path_of l.path.items) (drop l.event-index l.events))
    ≡ l.fn.out.items ++ errors_text (events_errors (key [] ∷ []) l.events))
    × spec.AreBelow (l.event-index + 1) l.path.items
