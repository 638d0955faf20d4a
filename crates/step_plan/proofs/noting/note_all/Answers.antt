use Rattle.std.proofs.Common.{◌≡◌, OnOk, List, map, rules}
use Rattle.std.specs.Prelude.{flat_map}
use Rattle.plan_constraints.specs.declared.constraint.Constraint.{Constraint}
use Rattle.plan_constraints.specs.Noted as spec
use Rattle.plan_constraints.specs.Same.{with_constraints}
use Rattle.step_plan.proofs.Notes.{two_noted}
use Rattle.step_plan.proofs.noting.note_all.Goals as goal

pub returns : goal.returns
returns c =
    let before : List Constraint = c.args.list.now in
    let between : List Constraint = c.note_asked.new.list in
    let now : List Constraint = c.note_places.new.list in
    let xs : List Constraint = map (spec.whole_of c.args.vars.now) c.args.tree.now.asked in
    let ys : List Constraint = flat_map (spec.noted_at c.args.base.now c.args.vars.now) c.args.tree.now.places in
    let asked : c.note_asked.new.list ≡ with_constraints c.args.list.now (map (spec.whole_of c.args.vars.now) c.args.tree.now.asked) = search rules in
    let placed : OnOk c.note_places.result (c.note_places.new.list ≡ with_constraints c.note_asked.new.list (flat_map (spec.noted_at c.args.base.now c.args.vars.now) c.args.tree.now.places)) = search rules in
    two_noted c.note_places.result before between now xs ys asked placed
