-- How cells of one variant stand, and null.
use Rattle.std.proofs.Common.{◌≡◌, ◌≢◌, ℕ, ℤ, pos, List, [], true, false, refl}
use Rattle.std.specs.declared.cmp.Ordering.{Ordering}
use Rattle.std.specs.declared.cmp.Ordering.TheVariants.{Less, Equal, Greater}
use Rattle.std.specs.Ordering.{nat_cmp, int_cmp, ordering_then}
use Rattle.std.specs.Cmp.Lexicographic.{slice_cmp}
use Rattle.pg_base.specs.declared.cell.Cell.{Cell}
use Rattle.pg_base.specs.declared.cell.Cell.TheVariants as cell
use Rattle.rel_model.specs.Ordered.{cell_order}

then_equal : (r : Ordering) → ordering_then r Equal ≡ r
then_equal Less = refl
then_equal Equal = refl
then_equal Greater = refl

pub null_last : (c : Cell) → c ≢ cell.Null → cell_order c cell.Null ≡ Less
unfolding cell_order
null_last cell.Null some = absurd (some refl)
null_last (cell.Int n) some = refl
null_last (cell.Bool b) some = refl
null_last (cell.Text t) some = refl
null_last (cell.EnumCase place) some = refl

pub integers_by_value : (m n : ℤ) → cell_order (cell.Int m) (cell.Int n) ≡ int_cmp m n
unfolding cell_order
integers_by_value m n = then_equal (int_cmp m n)

pub truths_in_order : cell_order (cell.Bool false) (cell.Bool true) ≡ Less
unfolding cell_order
truths_in_order = refl

pub texts_by_bytes : (s t : List ℕ) → cell_order (cell.Text s) (cell.Text t) ≡ slice_cmp nat_cmp s t
unfolding cell_order
texts_by_bytes s t = refl

pub cases_by_place : (m n : ℕ) → cell_order (cell.EnumCase m) (cell.EnumCase n) ≡ int_cmp (pos m) (pos n)
unfolding cell_order
cases_by_place m n = then_equal (int_cmp (pos m) (pos n))
