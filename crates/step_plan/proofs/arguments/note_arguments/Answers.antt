use Rattle.std.proofs.Common.{◌≡◌, ◌++◌, OnOk, List, subst, rules}
use Rattle.place_tree.specs.Arguments.{written}
use Rattle.place_tree.specs.declared.place.PlaceArg.{PlaceArg}
use Rattle.plan_constraints.specs.declared.constraint.Constraint.{Constraint}
use Rattle.plan_constraints.specs.Noted as spec
use Rattle.plan_constraints.specs.Same.{with_constraints}
use Rattle.step_plan.proofs.Notes.{two_noted}
use Rattle.step_plan.proofs.arguments.note_arguments.Goals as goal

pub returns : goal.returns
returns c =
    let vars = c.args.vars.now in
    let same : c.as_slice-args.result.now ≡ c.args.place.now.args = c.as_slice-args.ensures in
    let args : List PlaceArg = c.as_slice-args.result.now in
    let w0 : List Constraint = spec.noted_window vars (written args 0) in
    let w1 : List Constraint = spec.noted_window vars (written args 1) in
    let w2 : List Constraint = spec.noted_window vars (written args 2) in
    let w3 : List Constraint = spec.noted_window vars (written args 3) in
    let w4 : List Constraint = spec.noted_window vars (written args 4) in
    let o : List Constraint = spec.noted_order vars (written args 5) in
    let d : List Constraint = spec.noted_condition vars (written args 6) in
    let l0 : List Constraint = c.args.list.now in
    let l1 : List Constraint = c.note_window.new.list in
    let l2 : List Constraint = c.note_window-2.new.list in
    let l3 : List Constraint = c.note_window-3.new.list in
    let l4 : List Constraint = c.note_window-4.new.list in
    let l5 : List Constraint = c.note_window-5.new.list in
    let l6 : List Constraint = c.note_order.new.list in
    let now : List Constraint = c.note_condition.new.list in
    let e0 : c.note_window.new.list ≡ with_constraints c.args.list.now (spec.noted_window vars (written args 0)) = search rules in
    let e1 : c.note_window-2.new.list ≡ with_constraints c.note_window.new.list (spec.noted_window vars (written args 1)) = search rules in
    let e2 : c.note_window-3.new.list ≡ with_constraints c.note_window-2.new.list (spec.noted_window vars (written args 2)) = search rules in
    let e3 : c.note_window-4.new.list ≡ with_constraints c.note_window-3.new.list (spec.noted_window vars (written args 3)) = search rules in
    let e4 : c.note_window-5.new.list ≡ with_constraints c.note_window-4.new.list (spec.noted_window vars (written args 4)) = search rules in
    let e5 : c.note_order.new.list ≡ with_constraints c.note_window-5.new.list (spec.noted_order vars (written args 5)) = search rules in
    let r = c.note_condition.result in
    let h5 : OnOk r (now ≡ with_constraints l5 (o ++ d)) = two_noted r l5 l6 now o d e5 c.note_condition.ensures in
    let h4 : OnOk r (now ≡ with_constraints l4 (w4 ++ (o ++ d))) = two_noted r l4 l5 now w4 (o ++ d) e4 h5 in
    let h3 : OnOk r (now ≡ with_constraints l3 (w3 ++ (w4 ++ (o ++ d)))) = two_noted r l3 l4 now w3 (w4 ++ (o ++ d)) e3 h4 in
    let h2 : OnOk r (now ≡ with_constraints l2 (w2 ++ (w3 ++ (w4 ++ (o ++ d))))) = two_noted r l2 l3 now w2 (w3 ++ (w4 ++ (o ++ d))) e2 h3 in
    let h1 : OnOk r (now ≡ with_constraints l1 (w1 ++ (w2 ++ (w3 ++ (w4 ++ (o ++ d)))))) = two_noted r l1 l2 now w1 (w2 ++ (w3 ++ (w4 ++ (o ++ d)))) e1 h2 in
    let h0 : OnOk r (now ≡ with_constraints l0 (w0 ++ (w1 ++ (w2 ++ (w3 ++ (w4 ++ (o ++ d))))))) = two_noted r l0 l1 now w0 (w1 ++ (w2 ++ (w3 ++ (w4 ++ (o ++ d))))) e0 h1 in
    subst (λ (xs : List PlaceArg). OnOk r (now ≡ with_constraints l0 (spec.noted_window vars (written xs 0) ++ (spec.noted_window vars (written xs 1) ++ (spec.noted_window vars (written xs 2) ++ (spec.noted_window vars (written xs 3) ++ (spec.noted_window vars (written xs 4) ++ (spec.noted_order vars (written xs 5) ++ spec.noted_condition vars (written xs 6))))))))) same h0
