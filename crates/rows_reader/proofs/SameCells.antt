-- The derived test of cells finds what is equal, nulls too.
use Rattle.std.proofs.Common.{◌≡◌, refl, rules}
use Rattle.pg_base.specs.declared.cell.Cell.{Cell}
use Rattle.pg_base.specs.declared.cell.Cell.TheVariants as cell
use Rattle.pg_base.specs.contracts.cell.CellPartialEq.TheImpl as derived
use Rattle.rel_model.specs.Picked.{same_cell}

pub test_is : (a b : Cell) → derived.eq-value.it a b ≡ same_cell a b
unfolding same_cell
test_is cell.Null cell.Null = refl
test_is cell.Null (cell.Int y) = refl
test_is cell.Null (cell.Bool y) = refl
test_is cell.Null (cell.Text y) = refl
test_is cell.Null (cell.EnumCase y) = refl
test_is (cell.Int x) cell.Null = refl
test_is (cell.Int x) (cell.Int y) = search rules
test_is (cell.Int x) (cell.Bool y) = refl
test_is (cell.Int x) (cell.Text y) = refl
test_is (cell.Int x) (cell.EnumCase y) = refl
test_is (cell.Bool x) cell.Null = refl
test_is (cell.Bool x) (cell.Int y) = refl
test_is (cell.Bool x) (cell.Bool y) = search rules
test_is (cell.Bool x) (cell.Text y) = refl
test_is (cell.Bool x) (cell.EnumCase y) = refl
test_is (cell.Text x) cell.Null = refl
test_is (cell.Text x) (cell.Int y) = refl
test_is (cell.Text x) (cell.Bool y) = refl
test_is (cell.Text x) (cell.Text y) = search rules
test_is (cell.Text x) (cell.EnumCase y) = refl
test_is (cell.EnumCase x) cell.Null = refl
test_is (cell.EnumCase x) (cell.Int y) = refl
test_is (cell.EnumCase x) (cell.Bool y) = refl
test_is (cell.EnumCase x) (cell.Text y) = refl
test_is (cell.EnumCase x) (cell.EnumCase y) = search rules

pub tests_are : derived.eq-value.it ≡ same_cell
tests_are = λ i a b. test_is a b i
