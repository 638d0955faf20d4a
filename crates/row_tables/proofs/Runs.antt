-- A table that is passed over by runs.
use Rattle.std.proofs.Common.{◌≡◌, ℕ, ◌+◌, ◌<◌, ◌≤◌, List, [], ◌∷◌, ◌++◌, length, drop, Option, Some, None, Bool, true, false, ◌&&◌, ◌==◌, refl, sym, ap, ◌∙◌, arith, length-append, length-drop}
use Rattle.std.specs.List.{list_all}
use Rattle.pg_base.proofs.ListSteps.{drop-past}
use Rattle.shared_list.specs.Lists.{IsRun}
use Rattle.rel_model.specs.declared.tables.Row.{Row}
use Rattle.rel_model.proofs.Rising.{choose}
use Rattle.row_tables.specs.Rows.{first, row_by, is_free_in}
use Rattle.rel_model.specs.Picked.{passes}
use Rattle.pg_base.specs.declared.cell.Cell.{Cell}
use Rattle.std.proofs.lemmas.Bool.Decides.{nat_tests}

pub run_within : {X : Type 0} (xs : List X) (at : ℕ) (run : List X) → at < length xs → IsRun xs at run → at + length run ≤ length xs
run_within xs at run lt is =
    let e = sym (length-drop at xs) ∙ ap length is.rest ∙ length-append run (drop (at + length run) xs) in
    let f = length-drop (at + length run) xs in
    omega (arith, e, f, lt)

first_append : (p : Row → Bool) (run rest : List Row) → first p run ≡ None → first p (run ++ rest) ≡ first p rest
first_append p [] rest e = refl
first_append p (r ∷ run) rest e = by (p r) refl (first_append p run rest)
  where
    by : (b : Bool) → p r ≡ b → (first p run ≡ None → first p (run ++ rest) ≡ first p rest) → first p (r ∷ (run ++ rest)) ≡ first p rest
    by true t below = absurd (let k : Some r ≡ None = sym (choose (p r) (Some r) (first p run) true t) ∙ e in cc)
    by false t below = choose (p r) (Some r) (first p (run ++ rest)) false t ∙ below (sym (choose (p r) (Some r) (first p run) false t) ∙ e)

first_found : (p : Row → Bool) (run rest : List Row) (x : Row) → first p run ≡ Some x → first p (run ++ rest) ≡ Some x
first_found p [] rest x e = cc
first_found p (r ∷ run) rest x e = by (p r) refl (first_found p run rest x)
  where
    by : (b : Bool) → p r ≡ b → (first p run ≡ Some x → first p (run ++ rest) ≡ Some x) → first p (r ∷ (run ++ rest)) ≡ Some x
    by true t below = choose (p r) (Some r) (first p (run ++ rest)) true t ∙ sym (choose (p r) (Some r) (first p run) true t) ∙ e
    by false t below = choose (p r) (Some r) (first p (run ++ rest)) false t ∙ below (sym (choose (p r) (Some r) (first p run) false t) ∙ e)

-- the search goes on after a run
module _ (p : Row → Bool) (rows : List Row) (at : ℕ) (run : List Row) (found : Option Row) (so_far : first p (drop at rows) ≡ found) (is : IsRun rows at run) where
  pub run_passed : first p run ≡ None → first p (drop (at + length run) rows) ≡ found
  run_passed e = sym (first_append p run (drop (at + length run) rows) e) ∙ ap (first p) (sym is.rest) ∙ so_far

  pub run_found : (x : Row) → first p run ≡ Some x → Some x ≡ found
  run_found x e = sym (first_found p run (drop (at + length run) rows) x e) ∙ ap (first p) (sym is.rest) ∙ so_far

pub runs_over : (p : Row → Bool) (rows : List Row) (at : ℕ) (found : Option Row) → first p (drop at rows) ≡ found → length rows ≤ at → None ≡ found
runs_over p rows at found so_far le = ap (first p) (sym (drop-past rows at le)) ∙ so_far

all_append : {X : Type 0} (p : X → Bool) (xs ys : List X) → list_all p (xs ++ ys) ≡ (list_all p xs && list_all p ys)
all_append p [] ys = refl
all_append p (x ∷ xs) ys = by (p x) (all_append p xs ys)
  where
    by : (b : Bool) → list_all p (xs ++ ys) ≡ (list_all p xs && list_all p ys) → (b && list_all p (xs ++ ys)) ≡ ((b && list_all p xs) && list_all p ys)
    by true below = below
    by false below = refl

module _ (places : List ℕ) (row : Row) (rows : List Row) (at : ℕ) (run : List Row) (free : Bool) (so_far : is_free_in places row (drop at rows) ≡ free) (is : IsRun rows at run) where
  both : (is_free_in places row run && is_free_in places row (drop (at + length run) rows)) ≡ free
  both = sym (all_append _ run (drop (at + length run) rows)) ∙ ap (is_free_in places row) (sym is.rest) ∙ so_far

  pub free_passed : is_free_in places row run ≡ true → is_free_in places row (drop (at + length run) rows) ≡ free
  free_passed e = ap (λ b. b && is_free_in places row (drop (at + length run) rows)) (sym e) ∙ both

  pub free_stops : is_free_in places row run ≡ false → false ≡ free
  free_stops e = ap (λ b. b && is_free_in places row (drop (at + length run) rows)) (sym e) ∙ both

pub free_over : (places : List ℕ) (row : Row) (rows : List Row) (at : ℕ) (free : Bool) → is_free_in places row (drop at rows) ≡ free → length rows ≤ at → true ≡ free
free_over places row rows at free so_far le = ap (is_free_in places row) (sym (drop-past rows at le)) ∙ so_far

pub by_of_length : (places : List ℕ) (cells : List Cell) (rows : List Row) → length cells ≡ length places → row_by places cells rows ≡ first (passes places cells []) rows
by_of_length places cells rows e =
    let t : (length cells == length places) ≡ true = grind (arith, nat_tests, e) in
    choose (length cells == length places) (first (passes places cells []) rows) None true t
