-- The numbers of ordered rows, from borrows of the rows.
use Rattle.std.proofs.Common.{◌≡◌, ℕ, List, [], ◌∷◌, Bor, map, refl, sym, ap, ◌∙◌}
use Rattle.rel_model.specs.declared.tables.Row.{Row}
use Rattle.rel_model.specs.declared.window.By.{By}
use Rattle.rel_model.specs.Picked.{rows_numbered}
use Rattle.rel_model.specs.Ordered.{precedes, sorted_by, ordered}
use Rattle.rel_model.proofs.Sorting.{sorted_by-map}

numbers_borrowed : (rows : List (Bor Row)) → map (λ (r : Bor Row). r.now.number) rows ≡ map (λ (r : Row). r.number) (map (λ (r : Bor Row). r.now) rows)
numbers_borrowed [] = refl
numbers_borrowed (r ∷ rows) = ap (λ l. r.now.number ∷ l) (numbers_borrowed rows)

pub numbers_sorted : (order : List By) (rows table : List Row) (numbers : List ℕ) (items sorted found : List (Bor Row)) → items ≡ sorted → map (λ (r : Bor Row). r.now) sorted ≡ ordered order (map (λ (r : Bor Row). r.now) found) → map (λ (r : Bor Row). r.now) found ≡ rows_numbered rows numbers → rows ≡ table → map (λ (r : Bor Row). r.now.number) items ≡ map (λ (r : Row). r.number) (ordered order (rows_numbered table numbers))
numbers_sorted order rows table numbers items sorted found a b c d =
    numbers_borrowed items
    ∙ ap (map (λ (r : Row). r.number)) (ap (map (λ (r : Bor Row). r.now)) a ∙ b ∙ ap (ordered order) (c ∙ ap (λ l. rows_numbered l numbers) d))

pub borrowed_sorted : (order : List By) (old new : List (Bor Row)) → new ≡ sorted_by (λ (a b : Bor Row). precedes order a.now b.now) old → map (λ (r : Bor Row). r.now) new ≡ ordered order (map (λ (r : Bor Row). r.now) old)
borrowed_sorted order old new e = ap (map (λ (r : Bor Row). r.now)) e ∙ sym (sorted_by-map (λ (r : Bor Row). r.now) (precedes order) old)
