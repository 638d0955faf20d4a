use Rattle.std.proofs.Common.{◌≡◌, IfOk, ap, subst, ◌∙◌}
use Rattle.step_plan.specs.Added.{id_written}
use Rattle.step_plan.proofs.Members.{id_among_in}
use Rattle.step_plan.proofs.ids.input_id.Goals as goal

pub returns-in-Object : goal.returns-in-Object
returns-in-Object c =
    subst (λ s. IfOk c.id_written.result (λ step. step ≡ s))
    (ap id_written c.id_among.ensures ∙ id_among_in c.args.input.now _ _ c.in-Object.is c.as_slice.ensures)
    c.id_written.ensures
