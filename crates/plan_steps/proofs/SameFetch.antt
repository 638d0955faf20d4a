-- The test of fetches decides whether they are equal.
use Rattle.std.proofs.Common.{◌≡◌, ℕ, List, [], ◌∷◌, map, Option, Some, None, Bool, true, false, refl, sym, ap, ◌∙◌, subst}
use Rattle.std.specs.Prelude.{◌&&◌}
use Rattle.std.specs.Bool.{Decides}
use Rattle.std.specs.Cmp.{signed_Decides, booleans_Decides}
use Rattle.std.specs.Cmp.Lexicographic.{pointwise_decides}
use Rattle.std.proofs.lemmas.Bool.Decides.{Decides-eqb}
use Rattle.std.proofs.lemmas.Slice.Eq.{bytes_eq-Decides}
use Rattle.pg_base.specs.declared.cell.Cell.{Cell}
use Rattle.pg_base.specs.declared.cell.Cell.TheVariants as cell
use Rattle.rel_model.specs.declared.window.By.{By}
use Rattle.rel_model.specs.Picked.{same_cell}
use Rattle.place_tree.specs.Fold.{same_place}
use Rattle.plan_constraints.specs.declared.part.Part.{Part}
use Rattle.plan_constraints.specs.declared.part.Part.TheVariants as part
use Rattle.plan_constraints.specs.Same.{same_part}
use Rattle.plan_steps.specs.declared.plan.Slot.{Slot}
use Rattle.plan_steps.specs.declared.plan.Slot.TheVariants.{Const, Var}
use Rattle.plan_steps.specs.declared.plan.SlotEqual.{SlotEqual}
use Rattle.plan_steps.specs.declared.plan.SlotWindow.{SlotWindow}
use Rattle.plan_steps.specs.declared.plan.FetchStep.{FetchStep, FetchStep-F, out-FetchStep, roll-FetchStep, out-roll-FetchStep, roll-out-FetchStep, fold-roll-FetchStep, fold_out-FetchStep, ind-FetchStep}
use Rattle.plan_steps.specs.Same.{same_slot, same_optional, same_equal, same_by, same_window, same_top, all_same, same_step, same_fetch}

both : (a b : Bool) (P Q : Type 0) → Decides a P → Decides b Q → Decides (a && b) (P × Q)
both true true P Q p q = (λ h. (p.0 refl, q.0 refl), λ h. refl)
both true false P Q p q = (λ h. cc, λ h. q.1 h.1)
both false b P Q p q = (λ h. cc, λ h. p.1 h.0)

as_fact : (r : Bool) (P Q : Type 0) → (P → Q) → (Q → P) → Decides r P → Decides r Q
as_fact r P Q f g p = (λ h. f (p.0 h), λ q. p.1 (g q))

cell_tells : (a b : Cell) → Decides (same_cell a b) (a ≡ b)
unfolding same_cell
cell_tells cell.Null cell.Null = (λ h. refl, λ h. refl)
cell_tells (cell.Int a) (cell.Int b) = as_fact _ (a ≡ b) (cell.Int a ≡ cell.Int b) (ap cell.Int) (λ h. cc) (signed_Decides a b)
cell_tells (cell.Bool a) (cell.Bool b) = as_fact _ (a ≡ b) (cell.Bool a ≡ cell.Bool b) (ap cell.Bool) (λ h. cc) (booleans_Decides a b)
cell_tells (cell.Text a) (cell.Text b) = as_fact _ (a ≡ b) (cell.Text a ≡ cell.Text b) (ap cell.Text) (λ h. cc) (bytes_eq-Decides a b)
cell_tells (cell.EnumCase a) (cell.EnumCase b) = as_fact _ (a ≡ b) (cell.EnumCase a ≡ cell.EnumCase b) (ap cell.EnumCase) (λ h. cc) (Decides-eqb a b)
cell_tells _ _ = (λ h. cc, λ h. cc)

part_tells : (a b : Part) → Decides (same_part a b) (a ≡ b)
part_tells (part.Name a) (part.Name b) = as_fact _ (a ≡ b) (part.Name a ≡ part.Name b) (ap part.Name) (λ h. cc) (bytes_eq-Decides a b)
part_tells (part.Index a) (part.Index b) = as_fact _ (a ≡ b) (part.Index a ≡ part.Index b) (ap part.Index) (λ h. cc) (Decides-eqb a b)
part_tells _ _ = (λ h. cc, λ h. cc)

slot_tells : (a b : Slot) → Decides (same_slot a b) (a ≡ b)
slot_tells (Const a) (Const b) = as_fact _ (a ≡ b) (Const a ≡ Const b) (ap Const) (λ h. cc) (cell_tells a b)
slot_tells (Var a) (Var b) = as_fact _ (a ≡ b) (Var a ≡ Var b) (ap Var) (λ h. cc) (pointwise_decides part_tells a b)
slot_tells _ _ = (λ h. cc, λ h. cc)

optional_tells : (a b : Option Slot) → Decides (same_optional a b) (a ≡ b)
optional_tells None None = (λ h. refl, λ h. refl)
optional_tells (Some a) (Some b) = as_fact _ (a ≡ b) (Some a ≡ Some b) (ap (λ x. Some x)) (λ h. cc) (slot_tells a b)
optional_tells _ _ = (λ h. cc, λ h. cc)

place_tells : (a b : Option ℕ) → Decides (same_place a b) (a ≡ b)
place_tells None None = (λ h. refl, λ h. refl)
place_tells (Some a) (Some b) = as_fact _ (a ≡ b) (Some a ≡ Some b) (ap (λ x. Some x)) (λ h. cc) (Decides-eqb a b)
place_tells _ _ = (λ h. cc, λ h. cc)

equal_tells : (a b : SlotEqual) → Decides (same_equal a b) (a ≡ b)
equal_tells a b = as_fact _ ((a.column ≡ b.column) × (a.slot ≡ b.slot)) (a ≡ b)
    (λ h. λ i. record { column = h.0 i; slot = h.1 i }) (λ e. (ap (λ x. x.column) e, ap (λ x. x.slot) e))
    (both _ _ _ _ (Decides-eqb a.column b.column) (slot_tells a.slot b.slot))

by_tells : (a b : By) → Decides (same_by a b) (a ≡ b)
by_tells a b = as_fact _ ((a.column ≡ b.column) × (a.descending ≡ b.descending)) (a ≡ b)
    (λ h. λ i. record { column = h.0 i; descending = h.1 i }) (λ e. (ap (λ x. x.column) e, ap (λ x. x.descending) e))
    (both _ _ _ _ (Decides-eqb a.column b.column) (booleans_Decides a.descending b.descending))

window_tells : (a b : SlotWindow) → Decides (same_window a b) (a ≡ b)
window_tells a b = as_fact _ _ (a ≡ b)
    (λ h. λ i. record { first = h.0 i; last = h.1.0 i; offset = h.1.1.0 i; before = h.1.1.1.0 i; after = h.1.1.1.1 i })
    (λ e. (ap (λ x. x.first) e, (ap (λ x. x.last) e, (ap (λ x. x.offset) e, (ap (λ x. x.before) e, ap (λ x. x.after) e)))))
    (both _ _ _ _ (optional_tells a.first b.first) (both _ _ _ _ (optional_tells a.last b.last) (both _ _ _ _ (optional_tells a.offset b.offset) (both _ _ _ _ (optional_tells a.before b.before) (optional_tells a.after b.after)))))

abbrev Tests : FetchStep → Type 0
Tests f = (g : FetchStep) → Decides (same_fetch f g) (f ≡ g)

children_tell : (es : List ((f : FetchStep) × Tests f)) (gs : List FetchStep) → Decides (all_same (map same_fetch (map (λ e. e.0) es)) gs) (map (λ e. e.0) es ≡ gs)
children_tell [] [] = (λ h. refl, λ h. refl)
children_tell [] (g ∷ gs) = (λ h. cc, λ h. cc)
children_tell (e ∷ es) [] = (λ h. cc, λ h. cc)
children_tell (e ∷ es) (g ∷ gs) = as_fact _ _ (e.0 ∷ map (λ e. e.0) es ≡ g ∷ gs) (λ h. λ i. h.0 i ∷ h.1 i) (λ q. (cc, cc)) (both _ _ _ _ (e.1 g) (children_tell es gs))

layer_tells : (x o : FetchStep-F FetchStep) → Decides (all_same (map same_fetch x.children) o.children) (x.children ≡ o.children) → Decides (same_top x o && all_same (map same_fetch x.children) o.children) (x ≡ o)
layer_tells x o kids = as_fact _ _ (x ≡ o)
    (λ h. λ i. record { table = h.0.0 i; by = h.0.1.0 i; parent = h.0.1.1.0 i; parent_columns = h.0.1.1.1.0 i; condition = h.0.1.1.1.1.0 i; key = h.0.1.1.1.1.1.0 i; order = h.0.1.1.1.1.1.1.0 i; window = h.0.1.1.1.1.1.1.1.0 i; rows = h.0.1.1.1.1.1.1.1.1 i; children = h.1 i })
    (λ e. ((ap (λ x. x.table) e, (ap (λ x. x.by) e, (ap (λ x. x.parent) e, (ap (λ x. x.parent_columns) e, (ap (λ x. x.condition) e, (ap (λ x. x.key) e, (ap (λ x. x.order) e, (ap (λ x. x.window) e, ap (λ x. x.rows) e)))))))), ap (λ x. x.children) e))
    (both _ _ _ _ (both _ _ _ _ (Decides-eqb x.table o.table) (both _ _ _ _ (pointwise_decides Decides-eqb x.by o.by) (both _ _ _ _ (place_tells x.parent o.parent) (both _ _ _ _ (pointwise_decides Decides-eqb x.parent_columns o.parent_columns)
    (both _ _ _ _ (pointwise_decides equal_tells x.condition o.condition) (both _ _ _ _ (pointwise_decides slot_tells x.key o.key) (both _ _ _ _ (pointwise_decides by_tells x.order o.order) (both _ _ _ _ (window_tells x.window o.window) (booleans_Decides x.rows o.rows))))))))) kids)

one_tells : (x : FetchStep-F FetchStep) (es : List ((f : FetchStep) × Tests f)) → map (λ e. e.0) es ≡ x.children → Tests (roll-FetchStep x)
one_tells x es is g =
    let o = out-FetchStep g in
    let kids : Decides (all_same (map same_fetch x.children) o.children) (x.children ≡ o.children) = subst (λ ks. Decides (all_same (map same_fetch ks) o.children) (ks ≡ o.children)) is (children_tell es o.children) in
    let test : same_fetch (roll-FetchStep x) g ≡ same_top x o && all_same (map same_fetch x.children) o.children = ap (λ f. f g) (fold-roll-FetchStep (FetchStep → Bool) same_step x) in
    as_fact (same_fetch (roll-FetchStep x) g) (x ≡ o) (roll-FetchStep x ≡ g) (λ e. ap roll-FetchStep e ∙ roll-out-FetchStep g) (λ e. sym (out-roll-FetchStep x) ∙ ap out-FetchStep e)
    (subst (λ b. Decides b (x ≡ o)) (sym test) (layer_tells x o kids))

pub fetch_tells : (f g : FetchStep) → Decides (same_fetch f g) (f ≡ g)
fetch_tells = ind-FetchStep Tests (λ x y is. one_tells x y.children (ap (λ z. z.children) is))

-- in one layer
pub same_is : (f g : FetchStep) → same_fetch f g ≡ (same_top (out-FetchStep f) (out-FetchStep g) && all_same (map same_fetch (out-FetchStep f).children) (out-FetchStep g).children)
same_is f g = ap (λ test. test g) (fold_out-FetchStep (FetchStep → Bool) same_step f)
