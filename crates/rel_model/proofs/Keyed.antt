-- Rows that stand at a key in the order of the key's columns are those that have it.
use Rattle.std.proofs.Common.{◌≡◌, ℕ, pos, List, [], ◌∷◌, length, Bool, true, false, ◌&&◌, not, refl, sym, ap, ◌∙◌, subst, arith}
use Rattle.std.specs.declared.cmp.Ordering.{Ordering}
use Rattle.std.specs.declared.cmp.Ordering.TheVariants.{Less, Equal, Greater}
use Rattle.std.specs.Ordering.{is_eq, int_cmp, ordering_then, ordering_reverse}
use Rattle.std.specs.Bool.{Decides}
use Rattle.std.proofs.lemmas.Cmp.{int_ranked}
use Rattle.std.proofs.lemmas.Slice.Eq.{bytes_eq-Decides}
use Rattle.std.proofs.lemmas.Map.Text.{is_eq-slice_cmp}
use Rattle.pg_base.specs.declared.cell.Cell.{Cell}
use Rattle.pg_base.specs.declared.cell.Cell.TheVariants as cell
use Rattle.pg_base.specs.Lists.{Each}
use Rattle.rel_model.specs.Picked.{same_cell, is_null, cell_at, has_key}
use Rattle.rel_model.specs.Ordered.{cell_order, cells_order, cells_by, ascending}
use Rattle.rel_model.proofs.Orders.{cell_order_total}
use Rattle.rel_model.proofs.Agreeing.{same_is}

then_front : (r s : Ordering) → ordering_then r s ≡ Equal → r ≡ Equal
then_front Less s e = cc
then_front Equal s e = refl
then_front Greater s e = cc

pos_same : (x y : ℕ) → pos x ≡ pos y → x ≡ y
pos_same x y e = cc

order_equal : (a b : Cell) → cell_order a b ≡ Equal → a ≡ b
unfolding cell_order
order_equal cell.Null cell.Null e = refl
order_equal cell.Null (cell.Int y) e = cc
order_equal cell.Null (cell.Bool y) e = cc
order_equal cell.Null (cell.Text y) e = cc
order_equal cell.Null (cell.EnumCase y) e = cc
order_equal (cell.Int x) cell.Null e = cc
order_equal (cell.Int x) (cell.Int y) e = ap cell.Int (int_ranked x y Equal (sym (then_front (int_cmp x y) Equal e)))
order_equal (cell.Int x) (cell.Bool y) e = cc
order_equal (cell.Int x) (cell.Text y) e = cc
order_equal (cell.Int x) (cell.EnumCase y) e = cc
order_equal (cell.Bool x) cell.Null e = cc
order_equal (cell.Bool x) (cell.Int y) e = cc
order_equal (cell.Bool true) (cell.Bool true) e = refl
order_equal (cell.Bool true) (cell.Bool false) e = cc
order_equal (cell.Bool false) (cell.Bool true) e = cc
order_equal (cell.Bool false) (cell.Bool false) e = refl
order_equal (cell.Bool x) (cell.Text y) e = cc
order_equal (cell.Bool x) (cell.EnumCase y) e = cc
order_equal (cell.Text x) cell.Null e = cc
order_equal (cell.Text x) (cell.Int y) e = cc
order_equal (cell.Text x) (cell.Bool y) e = cc
order_equal (cell.Text x) (cell.Text y) e = ap cell.Text ((bytes_eq-Decides x y).0 (sym (is_eq-slice_cmp x y) ∙ ap is_eq e))
order_equal (cell.Text x) (cell.EnumCase y) e = cc
order_equal (cell.EnumCase x) cell.Null e = cc
order_equal (cell.EnumCase x) (cell.Int y) e = cc
order_equal (cell.EnumCase x) (cell.Bool y) e = cc
order_equal (cell.EnumCase x) (cell.Text y) e = cc
order_equal (cell.EnumCase x) (cell.EnumCase y) e = ap cell.EnumCase (pos_same x y (int_ranked (pos x) (pos y) Equal (sym (then_front (int_cmp (pos x) (pos y)) Equal e))))

itself : (r : Ordering) → r ≡ ordering_reverse r → r ≡ Equal
itself Less e = cc
itself Equal e = refl
itself Greater e = cc

is_equal : (r : Ordering) → is_eq r ≡ true → r ≡ Equal
is_equal Less e = cc
is_equal Equal e = refl
is_equal Greater e = cc

order_decides : (a b : Cell) → Decides (is_eq (cell_order a b)) (a ≡ b)
order_decides a b = (
  λ e. order_equal a b (is_equal (cell_order a b) e),
  λ e. ap is_eq (subst (λ x. cell_order a x ≡ Equal) e (itself (cell_order a a) (cell_order_total.antisymm a a))),
)

one_answer : {P : Type 0} (a b : Bool) → Decides a P → Decides b P → a ≡ b
one_answer true b d e = sym (e.1 (d.0 refl))
one_answer false true d e = d.1 (e.0 refl)
one_answer false false d e = refl

order_same : (a b : Cell) → is_eq (cell_order a b) ≡ same_cell a b
order_same a b = one_answer (is_eq (cell_order a b)) (same_cell a b) (order_decides a b) (same_is a b)

eq_then : (r s : Ordering) → is_eq (ordering_then r s) ≡ (is_eq r && is_eq s)
eq_then Less s = refl
eq_then Equal s = refl
eq_then Greater s = refl

-- a key without a null
pub key_order : (by : List ℕ) (key cells : List Cell) → length key ≡ length by → Each (λ v. is_null v ≡ false) key → is_eq (cells_order (ascending by) (cells_by (ascending by) cells) key) ≡ has_key by key cells
key_order [] [] cells e h = refl
key_order [] (v ∷ key) cells e h = absurd (omega (arith, e))
key_order (p ∷ by) [] cells e h = absurd (omega (arith, e))
key_order (p ∷ by) (v ∷ key) cells e h =
    let c = cell_at cells p in
    let rest = cells_order (ascending by) (cells_by (ascending by) cells) key in
    eq_then (cell_order c v) rest
    ∙ ap (λ b. b && is_eq rest) (order_same c v)
    ∙ ap (λ b. same_cell c v && b) (key_order by key cells (let k : length key ≡ length by = omega (arith, e) in k) h.1)
    ∙ ap (λ b. (not b && same_cell c v) && has_key by key cells) (sym h.0)

and_false : (b : Bool) → (b && false) ≡ false
and_false true = refl
and_false false = refl

-- a key with one
pub null_order : (by : List ℕ) (key cells : List Cell) → length key ≡ length by → (Each (λ v. is_null v ≡ false) key → ⊥) → has_key by key cells ≡ false
null_order [] [] cells e h = absurd (h tt)
null_order [] (v ∷ key) cells e h = absurd (omega (arith, e))
null_order (p ∷ by) [] cells e h = absurd (omega (arith, e))
null_order (p ∷ by) (v ∷ key) cells e h = by_null (is_null v) refl (λ k. null_order by key cells (let l : length key ≡ length by = omega (arith, e) in l) k)
  where
    by_null : (n : Bool) → is_null v ≡ n → ((Each (λ v. is_null v ≡ false) key → ⊥) → has_key by key cells ≡ false) → has_key (p ∷ by) (v ∷ key) cells ≡ false
    by_null true t below = ap (λ b. (not b && same_cell (cell_at cells p) v) && has_key by key cells) t
    by_null false t below = ap (λ b. (not (is_null v) && same_cell (cell_at cells p) v) && b) (below (λ k. h (t, k))) ∙ and_false (not (is_null v) && same_cell (cell_at cells p) v)
