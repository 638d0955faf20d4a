use Rattle.std.proofs.Common.{◌≡◌, OnOk, map, subst, rules}
use Rattle.plan_constraints.specs.Noted as spec
use Rattle.plan_constraints.specs.Same.{with_constraints}
use Rattle.step_plan.specs.Listed.{noted_as}
use Rattle.step_plan.proofs.Notes.{named_turn, items_in, members_in}
use Rattle.step_plan.proofs.arguments.+notes.Goals as goal

pub note_in-returns-in-List : goal.note_in-returns-in-List
note_in-returns-in-List t c =
    subst (λ vs. OnOk c.note_items.result (c.note_items.new.list ≡ with_constraints c.args.list.now (map (noted_as c.args.how c.args.vars.now) vs)))
    (items_in c.args.arg.now _ _ c.in-List.is c.as_slice.ensures) c.note_items.ensures

pub note_in-returns-in-Object : goal.note_in-returns-in-Object
note_in-returns-in-Object t c =
    subst (λ vs. OnOk c.note_members.result (c.note_members.new.list ≡ with_constraints c.args.list.now (map (noted_as c.args.how c.args.vars.now) vs)))
    (members_in c.args.arg.now _ _ c.in-Object.is c.as_slice-in-Object.ensures) c.note_members.ensures

pub note_items-loop-item-preserved : goal.note_items-loop-item-preserved
note_items-loop-item-preserved t c =
    let noted : c.note_in.new.list ≡ with_constraints c.loop-item.list (map (noted_as c.args.how c.args.vars.now) (spec.vars_in c.item-item.result)) = search rules in
    named_turn (noted_as c.args.how c.args.vars.now) spec.vars_in c.args.items.now c.loop-item.item-index c.item-item.result c.loop-item.list c.note_in.new.list _ c.loop-item-test.true c.item-item.is c.loop-item.invariant noted

pub note_members-loop-member-preserved : goal.note_members-loop-member-preserved
note_members-loop-member-preserved t c =
    let noted : c.note_in.new.list ≡ with_constraints c.loop-member.list (map (noted_as c.args.how c.args.vars.now) (spec.vars_in c.member-item.result.value)) = search rules in
    named_turn (noted_as c.args.how c.args.vars.now) (λ m. spec.vars_in m.value) c.args.members.now c.loop-member.member-index c.member-item.result c.loop-member.list c.note_in.new.list _ c.loop-member-test.true c.member-item.is c.loop-member.invariant noted
