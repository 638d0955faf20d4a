use Rattle.std.proofs.Common.{[], ◌++◌, None, sym, ap, ◌∙◌}
use Rattle.std.proofs.lemmas.List.{append-nil}
use Rattle.place_tree.specs.Response.{errors_text}
use Rattle.output_plan.specs.Laid.{laid_of}
use Rattle.output_plan.proofs.Errors.{clear}
use Rattle.output_plan.proofs.failures.put_failures.Goals as goal

pub returns-clause-text : goal.returns-clause-text
returns-clause-text c =
    sym (ap (λ e. c.args.out.now.items ++ errors_text e) (clear (laid_of c.args.r.now) (sym c.has_failed.ensures ∙ c.if-has_failed.false) c.args.r.now.places.now 0 None [] []) ∙ append-nil c.args.out.now.items)
