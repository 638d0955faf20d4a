use Rattle.std.proofs.Common.{◌++◌, sym, ap, ◌∙◌}
use Rattle.place_tree.specs.Events.{error_at}
use Rattle.response_text.specs.Paths as spec
use Rattle.response_text.proofs.Roots.{from_outermost}
use Rattle.response_text.proofs.Pieces.{next_error}
use Rattle.response_text.proofs.errors.put_event_error.Goals as goal

pub returns-in_ok-put_error-in-Failed : goal.returns-in_ok-put_error-in-Failed
returns-in_ok-put_error-in-Failed c errors =
    next_error _ _ _ c.args.some c.in-Failed.message c.in-Failed.pos _ _ errors c.in_ok-put_before-in-Failed.ensures c.in_ok-put_error-in-Failed.ensures (from_outermost c.args.path.now)
    ∙ ap (λ e. c.args.out.now.items ++ spec.errors_left c.args.some (error_at e (spec.path_of c.args.path.now) errors)) (sym c.in-Failed.is)
