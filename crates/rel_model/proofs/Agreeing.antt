-- What a test finds is what is equal.
use Rattle.std.proofs.Common.{◌≡◌, ℕ, List, [], ◌∷◌, length, Bool, false, ◌&&◌, not, refl, ap, ◌∙◌, arith, ℤ, pos}
use Rattle.std.specs.Bool.{Decides}
use Rattle.std.proofs.lemmas.Bool.Decides.{Decides-int_eq, Decides-eqb, Decides-and, Decides-not, Decides-like}
use Rattle.std.specs.Cmp.{booleans_Decides}
use Rattle.std.proofs.lemmas.Slice.Eq.{bytes_eq-Decides}
use Rattle.pg_base.specs.declared.cell.Cell.{Cell}
use Rattle.pg_base.specs.declared.cell.Cell.TheVariants as cell
use Rattle.pg_base.specs.Lists.{Each}
use Rattle.rel_model.specs.declared.window.Equal.{Equal}
use Rattle.rel_model.specs.Tables.{cells_at, HoldNoNull}
use Rattle.rel_model.proofs.Sorting.{head_is, tail_is}
use Rattle.rel_model.specs.Picked.{same_cell, is_null, cell_at, has_key, meets}

int_of : Cell → ℤ
int_of (cell.Int n) = n
int_of _ = pos 0

bool_of : Cell → Bool
bool_of (cell.Bool b) = b
bool_of _ = false

text_of : Cell → List ℕ
text_of (cell.Text t) = t
text_of _ = []

case_of : Cell → ℕ
case_of (cell.EnumCase k) = k
case_of _ = 0

no_cell : {P : Type 0} → ¬ P → Decides false P
no_cell f = (λ e. cc, λ p. absurd (f p))

pub same_is : (a b : Cell) → Decides (same_cell a b) (a ≡ b)
unfolding same_cell int_of bool_of text_of case_of
same_is cell.Null cell.Null = (λ e. refl, λ e. refl)
same_is cell.Null (cell.Int y) = no_cell (λ e. cc)
same_is cell.Null (cell.Bool y) = no_cell (λ e. cc)
same_is cell.Null (cell.Text y) = no_cell (λ e. cc)
same_is cell.Null (cell.EnumCase y) = no_cell (λ e. cc)
same_is (cell.Int x) cell.Null = no_cell (λ e. cc)
same_is (cell.Int x) (cell.Int y) = (λ e. ap cell.Int ((Decides-int_eq x y).0 e), λ e. (Decides-int_eq x y).1 (ap int_of e))
same_is (cell.Int x) (cell.Bool y) = no_cell (λ e. cc)
same_is (cell.Int x) (cell.Text y) = no_cell (λ e. cc)
same_is (cell.Int x) (cell.EnumCase y) = no_cell (λ e. cc)
same_is (cell.Bool x) cell.Null = no_cell (λ e. cc)
same_is (cell.Bool x) (cell.Int y) = no_cell (λ e. cc)
same_is (cell.Bool x) (cell.Bool y) = (λ e. ap cell.Bool ((booleans_Decides x y).0 e), λ e. (booleans_Decides x y).1 (ap bool_of e))
same_is (cell.Bool x) (cell.Text y) = no_cell (λ e. cc)
same_is (cell.Bool x) (cell.EnumCase y) = no_cell (λ e. cc)
same_is (cell.Text x) cell.Null = no_cell (λ e. cc)
same_is (cell.Text x) (cell.Int y) = no_cell (λ e. cc)
same_is (cell.Text x) (cell.Bool y) = no_cell (λ e. cc)
same_is (cell.Text x) (cell.Text y) = (λ e. ap cell.Text ((bytes_eq-Decides x y).0 e), λ e. (bytes_eq-Decides x y).1 (ap text_of e))
same_is (cell.Text x) (cell.EnumCase y) = no_cell (λ e. cc)
same_is (cell.EnumCase x) cell.Null = no_cell (λ e. cc)
same_is (cell.EnumCase x) (cell.Int y) = no_cell (λ e. cc)
same_is (cell.EnumCase x) (cell.Bool y) = no_cell (λ e. cc)
same_is (cell.EnumCase x) (cell.Text y) = no_cell (λ e. cc)
same_is (cell.EnumCase x) (cell.EnumCase y) = (λ e. ap cell.EnumCase ((Decides-eqb x y).0 e), λ e. (Decides-eqb x y).1 (ap case_of e))

pub null_is : (a : Cell) → Decides (is_null a) (a ≡ cell.Null)
unfolding is_null
null_is cell.Null = (λ e. refl, λ e. refl)
null_is (cell.Int x) = no_cell (λ e. cc)
null_is (cell.Bool x) = no_cell (λ e. cc)
null_is (cell.Text x) = no_cell (λ e. cc)
null_is (cell.EnumCase x) = no_cell (λ e. cc)

abbrev HasKey : List ℕ → List Cell → List Cell → Type 0
HasKey by key cells = (cells_at by cells ≡ key) × HoldNoNull key

pub key_is : (by : List ℕ) (key cells : List Cell) → length key ≡ length by → Decides (has_key by key cells) (HasKey by key cells)
key_is [] [] cells e = (λ t. (refl, tt), λ h. refl)
key_is [] (v ∷ key) cells e = absurd (omega (arith, e))
key_is (place ∷ by) [] cells e = absurd (omega (arith, e))
key_is (place ∷ by) (v ∷ key) cells e =
    let here = Decides-and (not (is_null v)) (same_cell (cell_at cells place) v) (Decides-not (is_null v) (null_is v)) (same_is (cell_at cells place) v) in
    let below = key_is by key cells (let k : length key ≡ length by = omega (arith, e) in k) in
    Decides-like (has_key (place ∷ by) (v ∷ key) cells)
    (λ h. (cons_same h.0.1 h.1.0, (h.0.0, h.1.1)))
    (λ h. ((h.1.0, heads h.0), (tails h.0, h.1.1)))
    (Decides-and (not (is_null v) && same_cell (cell_at cells place) v) (has_key by key cells) here below)
  where
    cons_same : {a b : Cell} {xs ys : List Cell} → a ≡ b → xs ≡ ys → a ∷ xs ≡ b ∷ ys
    cons_same {b = b} {xs = xs} p q = ap (λ c. c ∷ xs) p ∙ ap (λ l. b ∷ l) q

    heads : {a b : Cell} {xs ys : List Cell} → a ∷ xs ≡ b ∷ ys → a ≡ b
    heads {a = a} {b = b} {xs = xs} {ys = ys} p = head_is a b xs ys p

    tails : {a b : Cell} {xs ys : List Cell} → a ∷ xs ≡ b ∷ ys → xs ≡ ys
    tails {a = a} {b = b} {xs = xs} {ys = ys} p = tail_is a b xs ys p

pub condition_is : (condition : List Equal) (cells : List Cell) → Decides (meets condition cells) (Each (λ e. cell_at cells e.column ≡ e.cell) condition)
condition_is [] cells = (λ t. tt, λ h. refl)
condition_is (e ∷ condition) cells =
    Decides-and (same_cell (cell_at cells e.column) e.cell) (meets condition cells) (same_is (cell_at cells e.column) e.cell) (condition_is condition cells)
