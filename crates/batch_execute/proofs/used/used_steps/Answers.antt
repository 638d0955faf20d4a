use Rattle.std.proofs.Common.{◌≡◌, ap, sym, ◌∙◌, subst}
use Rattle.place_tree.specs.declared.place.Tree.{Tree}
use Rattle.plan_steps.specs.declared.plan.Plan.{Plan}
use Rattle.plan_steps.specs.Under.{root_place}
use Rattle.batch_execute.specs.Used.{NameEarlier, ArePassed}
use Rattle.batch_execute.proofs.Passed.{name_earlier, used_all}
use Rattle.batch_execute.proofs.used.used_steps.Goals as goal

pub marks_of-requires : goal.marks_of-requires
marks_of-requires c =
    let e = c.args.entry.now in
    let steps : c.as_slice-steps.result.now ≡ e.plan.steps = c.as_slice-steps.ensures ∙ ap (λ (p : Plan). p.steps) c.plan-plan.ensures in
    subst NameEarlier (sym steps) (name_earlier e.base e.tree e.plan c.know.ensures.checked)

pub returns : goal.returns
returns c =
    let e = c.args.entry.now in
    let marks = c.in_ok-marks.marks.items in
    let places : c.as_slice-places.result.now ≡ e.tree.places = c.as_slice-places.ensures ∙ ap (λ (t : Tree). t.places) c.tree.ensures in
    let steps : c.as_slice-steps.result.now ≡ e.plan.steps = c.as_slice-steps.ensures ∙ ap (λ (p : Plan). p.steps) c.plan-plan.ensures in
    let outs : c.as_slice-outs.result.now ≡ e.plan.out = c.as_slice-outs.ensures ∙ ap (λ (p : Plan). p.out) c.plan-plan.ensures in
    used_all e.tree.places (root_place c.args.root.now) e.plan.steps e.plan.out marks
    (subst (λ r. ArePassed e.tree.places e.plan.steps e.plan.out r 0 marks) c.root_place.ensures
    (subst (λ l. ArePassed e.tree.places e.plan.steps l c.root_place.result 0 marks) outs
    (subst (λ l. ArePassed e.tree.places l c.as_slice-outs.result.now c.root_place.result 0 marks) steps
    (subst (λ l. ArePassed l c.as_slice-steps.result.now c.as_slice-outs.result.now c.root_place.result 0 marks) places c.in_ok-marks.ensures))))
