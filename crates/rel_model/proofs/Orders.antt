-- Cells, marks and rows stand in total orders.
use Rattle.std.proofs.Common.{refl, subst, List, [], ◌∷◌, Bool, true, false}
use Rattle.std.specs.declared.cmp.Ordering.{Ordering}
use Rattle.std.specs.declared.cmp.Ordering.TheVariants.{Equal}
use Rattle.std.specs.Cmp.{IsTotalOrder}
use Rattle.std.proofs.lemmas.Cmp.{on_total, then_total, back_total, nat_cmp_total, int_cmp_total, nat_list_cmp_total}
use Rattle.rel_model.specs.declared.window.By.{By}
use Rattle.rel_model.specs.Ordered.{rank, number, bytes, cell_order, turned, first_cell, other_cells, cells_order, mark_order}

pub cell_order_total : IsTotalOrder cell_order
unfolding cell_order
cell_order_total = then_total (on_total rank nat_cmp_total) (then_total (on_total number int_cmp_total) (on_total bytes nat_list_cmp_total))

turned_total : {K : Type 0} {R : K → K → Ordering} (b : Bool) → IsTotalOrder R → IsTotalOrder (λ x y. turned b (R x y))
turned_total true o = subst IsTotalOrder (λ i x y. o.antisymm y x i) (back_total o)
turned_total false o = o

level_total : {K : Type 0} → IsTotalOrder {K = K} (λ x y. Equal)
level_total = record { antisymm = λ x y. refl; trans = λ x y z p q. q; congr = λ x y z p. refl }

pub cells_order_total : (order : List By) → IsTotalOrder (cells_order order)
cells_order_total [] = level_total
cells_order_total (b ∷ order) = then_total (on_total first_cell (turned_total b.descending cell_order_total)) (on_total other_cells (cells_order_total order))

pub mark_order_total : (order : List By) → IsTotalOrder (mark_order order)
mark_order_total order = then_total (on_total (λ m. m.values) (cells_order_total order)) (on_total (λ m. m.number) nat_cmp_total)
