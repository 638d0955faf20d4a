use Rattle.std.proofs.Common.{sym, ap, ◌∙◌}
use Rattle.plan_constraints.specs.Same.{is_among}
use Rattle.plan_constraints.proofs.Repeats.{is_kept, added_if_ok}
use Rattle.plan_constraints.proofs.noting.note.Goals as goal

pub returns-then-is_among-clause-ok : goal.returns-then-is_among-clause-ok
returns-then-is_among-clause-ok c = is_kept _ _ (sym c.if-is_among.true ∙ c.is_among.ensures ∙ ap (is_among c.args.new) c.as_slice.ensures)

pub returns-clause-ok : goal.returns-clause-ok
returns-clause-ok c = added_if_ok c.push.result _ _ _ (sym c.if-is_among.false ∙ c.is_among.ensures ∙ ap (is_among c.args.new) c.as_slice.ensures) c.push.ensures.ok
