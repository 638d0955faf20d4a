-- Whether two fetches are the same in every part.
use Rattle.std.specs.Prelude.{Bool, true, false, ◌==◌, ◌&&◌, List, [], ◌∷◌, Option, Some, None, nat_eq}
use Rattle.std.specs.Bool.{beq}
use Rattle.std.specs.Cmp.Lexicographic.{pointwise}
use Rattle.rel_model.specs.declared.window.By.{By}
use Rattle.rel_model.specs.Picked.{same_cell}
use Rattle.place_tree.specs.Fold.{same_place}
use Rattle.plan_constraints.specs.Same.{same_path}
use Rattle.plan_steps.specs.declared.plan.Slot.{Slot}
use Rattle.plan_steps.specs.declared.plan.Slot.TheVariants.{Const, Var}
use Rattle.plan_steps.specs.declared.plan.SlotEqual.{SlotEqual}
use Rattle.plan_steps.specs.declared.plan.SlotWindow.{SlotWindow}
use Rattle.plan_steps.specs.declared.plan.FetchStep.{FetchStep, FetchStep-F, out-FetchStep, fold-FetchStep}

abbrev pub same_slot : Slot → Slot → Bool
same_slot (Const a) (Const b) = same_cell a b
same_slot (Const a) (Var q) = false
same_slot (Var p) (Const b) = false
same_slot (Var p) (Var q) = same_path p q

abbrev pub same_optional : Option Slot → Option Slot → Bool
same_optional None None = true
same_optional None (Some b) = false
same_optional (Some a) None = false
same_optional (Some a) (Some b) = same_slot a b

abbrev pub same_equal : SlotEqual → SlotEqual → Bool
same_equal a b = (a.column == b.column) && same_slot a.slot b.slot

abbrev pub same_by : By → By → Bool
same_by a b = (a.column == b.column) && beq a.descending b.descending

abbrev pub same_window : SlotWindow → SlotWindow → Bool
same_window a b =
    same_optional a.first b.first && (same_optional a.last b.last && (same_optional a.offset b.offset
    && (same_optional a.before b.before && same_optional a.after b.after)))

-- all but the children
abbrev pub same_top : {A B : Type 0} → FetchStep-F A → FetchStep-F B → Bool
same_top f g =
    (f.table == g.table) && (pointwise nat_eq f.by g.by && (same_place f.parent g.parent
    && (pointwise nat_eq f.parent_columns g.parent_columns && (pointwise same_equal f.condition g.condition
    && (pointwise same_slot f.key g.key && (pointwise same_by f.order g.order && (same_window f.window g.window
    && beq f.rows g.rows)))))))

abbrev pub all_same : List (FetchStep → Bool) → List FetchStep → Bool
all_same [] [] = true
all_same [] (g ∷ gs) = false
all_same (test ∷ tests) [] = false
all_same (test ∷ tests) (g ∷ gs) = test g && all_same tests gs

abbrev pub same_step : FetchStep-F (FetchStep → Bool) → FetchStep → Bool
same_step f g = same_top f (out-FetchStep g) && all_same f.children (out-FetchStep g).children

abbrev pub same_fetch : FetchStep → FetchStep → Bool
same_fetch = fold-FetchStep (FetchStep → Bool) same_step
