-- Cells that stand alike in an order are the same.
use Rattle.std.proofs.Common.{◌≡◌, ℕ, pos, List, [], ◌∷◌, Bool, true, false, refl, sym, ap, ◌∙◌}
use Rattle.std.specs.declared.cmp.Ordering.{Ordering}
use Rattle.std.specs.declared.cmp.Ordering.TheVariants.{Less, Equal, Greater}
use Rattle.std.specs.Ordering.{is_eq, int_cmp, ordering_then, ordering_reverse}
use Rattle.std.proofs.lemmas.Cmp.{int_ranked}
use Rattle.std.proofs.lemmas.Slice.Eq.{bytes_eq-Decides}
use Rattle.std.proofs.lemmas.Map.Text.{is_eq-slice_cmp}
use Rattle.pg_base.specs.declared.cell.Cell.{Cell}
use Rattle.pg_base.specs.declared.cell.Cell.TheVariants as cell
use Rattle.rel_model.specs.declared.window.By.{By}
use Rattle.rel_model.specs.Picked.{cell_at}
use Rattle.rel_model.specs.Ordered.{cell_order, cells_by, cells_order, turned}

then_front : (r s : Ordering) → ordering_then r s ≡ Equal → r ≡ Equal
then_front Less s e = cc
then_front Equal s e = refl
then_front Greater s e = cc

then_back : (r s : Ordering) → ordering_then r s ≡ Equal → s ≡ Equal
then_back Less s e = cc
then_back Equal s e = e
then_back Greater s e = cc

pos_same : (x y : ℕ) → pos x ≡ pos y → x ≡ y
pos_same x y e = cc

order_equal : (a b : Cell) → cell_order a b ≡ Equal → a ≡ b
unfolding cell_order
order_equal cell.Null cell.Null e = refl
order_equal cell.Null (cell.Int y) e = cc
order_equal cell.Null (cell.Bool y) e = cc
order_equal cell.Null (cell.Text y) e = cc
order_equal cell.Null (cell.EnumCase y) e = cc
order_equal (cell.Int x) cell.Null e = cc
order_equal (cell.Int x) (cell.Int y) e = ap cell.Int (int_ranked x y Equal (sym (then_front (int_cmp x y) Equal e)))
order_equal (cell.Int x) (cell.Bool y) e = cc
order_equal (cell.Int x) (cell.Text y) e = cc
order_equal (cell.Int x) (cell.EnumCase y) e = cc
order_equal (cell.Bool x) cell.Null e = cc
order_equal (cell.Bool x) (cell.Int y) e = cc
order_equal (cell.Bool true) (cell.Bool true) e = refl
order_equal (cell.Bool true) (cell.Bool false) e = cc
order_equal (cell.Bool false) (cell.Bool true) e = cc
order_equal (cell.Bool false) (cell.Bool false) e = refl
order_equal (cell.Bool x) (cell.Text y) e = cc
order_equal (cell.Bool x) (cell.EnumCase y) e = cc
order_equal (cell.Text x) cell.Null e = cc
order_equal (cell.Text x) (cell.Int y) e = cc
order_equal (cell.Text x) (cell.Bool y) e = cc
order_equal (cell.Text x) (cell.Text y) e = ap cell.Text ((bytes_eq-Decides x y).0 (sym (is_eq-slice_cmp x y) ∙ ap is_eq e))
order_equal (cell.Text x) (cell.EnumCase y) e = cc
order_equal (cell.EnumCase x) cell.Null e = cc
order_equal (cell.EnumCase x) (cell.Int y) e = cc
order_equal (cell.EnumCase x) (cell.Bool y) e = cc
order_equal (cell.EnumCase x) (cell.Text y) e = cc
order_equal (cell.EnumCase x) (cell.EnumCase y) e = ap cell.EnumCase (pos_same x y (int_ranked (pos x) (pos y) Equal (sym (then_front (int_cmp (pos x) (pos y)) Equal e))))

unturned : (r : Ordering) → ordering_reverse r ≡ Equal → r ≡ Equal
unturned Less e = cc
unturned Equal e = refl
unturned Greater e = cc

turned_equal : (b : Bool) (r : Ordering) → turned b r ≡ Equal → r ≡ Equal
turned_equal true r e = unturned r e
turned_equal false r e = e

-- rows that stand alike have the same cells there
pub alike_equal : (order : List By) (xs ys : List Cell) → cells_order order (cells_by order xs) (cells_by order ys) ≡ Equal → cells_by order xs ≡ cells_by order ys
alike_equal [] xs ys e = refl
alike_equal (b ∷ order) xs ys e =
    let front = order_equal (cell_at xs b.column) (cell_at ys b.column) (turned_equal b.descending _ (then_front (turned b.descending (cell_order (cell_at xs b.column) (cell_at ys b.column))) _ e)) in
    let back = alike_equal order xs ys (then_back (turned b.descending (cell_order (cell_at xs b.column) (cell_at ys b.column))) _ e) in
    ap (λ c. c ∷ cells_by order xs) front ∙ ap (λ l. cell_at ys b.column ∷ l) back
