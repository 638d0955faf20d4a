-- The rows of a key, of grouped rows.
use Rattle.std.proofs.Common.{◌≡◌, List, [], ◌∷◌, length, cond, Bool, true, false, ◌&&◌, refl, sym, ap, ◌∙◌}
use Rattle.std.specs.Prelude.{filter}
use Rattle.std.specs.List.{list_any}
use Rattle.std.specs.Ordering.{is_eq}
use Rattle.pg_base.specs.declared.cell.Cell.{Cell}
use Rattle.pg_base.specs.Lists.{Each}
use Rattle.rel_model.specs.declared.tables.Row.{Row}
use Rattle.rel_model.specs.declared.tables.Tables.{Tables}
use Rattle.rel_model.specs.declared.window.By.{By}
use Rattle.rel_model.specs.Picked.{is_null, meets, passes, picked}
use Rattle.rel_model.specs.Ordered.{cells_by, ascending}
use Rattle.rel_model.proofs.Orders.{cells_order_total}
use Rattle.rel_model.proofs.Sorting.{when_true, when_false}
use Rattle.rel_model.proofs.Keyed.{key_order, null_order}
use Rattle.rel_model.proofs.Groups.{sorted_keeps}
use Rattle.stmt_tree.specs.declared.stmt.Stmt.{Stmt}
use Rattle.stmt_tree.specs.declared.stmt.Child.TheViews.{out-Stmt}
use Rattle.stmt_run.specs.Grouped.{stands_at, group_at, IsGrouped}

and_true : (b : Bool) → (b && true) ≡ b
and_true true = refl
and_true false = refl

and_false : (b : Bool) → (b && false) ≡ false
and_false true = refl
and_false false = refl

module _ {X : Type 0} (q p r : X → Bool) (both : (x : X) → r x ≡ (q x && p x)) where
  fused : (xs : List X) → filter q (filter p xs) ≡ filter r xs
  fused [] = refl
  fused (x ∷ xs) = by (p x) refl (fused xs)
    where
      by : (b : Bool) → p x ≡ b → filter q (filter p xs) ≡ filter r xs → filter q (filter p (x ∷ xs)) ≡ filter r (x ∷ xs)
      by true t below =
          ap (filter q) (when_true (p x) (x ∷ filter p xs) (filter p xs) t)
          ∙ ap (λ l. cond (q x) (x ∷ l) l) below
          ∙ ap (λ b. cond b (x ∷ filter r xs) (filter r xs)) (sym (both x ∙ ap (λ b. q x && b) t ∙ and_true (q x)))
      by false t below =
          ap (filter q) (when_false (p x) (x ∷ filter p xs) (filter p xs) t)
          ∙ below
          ∙ sym (when_false (r x) (x ∷ filter r xs) (filter r xs) (both x ∙ ap (λ b. q x && b) t ∙ and_false (q x)))

none_pass : {X : Type 0} (p : X → Bool) → ((x : X) → p x ≡ false) → (xs : List X) → filter p xs ≡ []
none_pass p h [] = refl
none_pass p h (x ∷ xs) = when_false (p x) (x ∷ filter p xs) (filter p xs) (h x) ∙ none_pass p h xs

any_none : {X : Type 0} (p : X → Bool) (xs : List X) → list_any p xs ≡ false → Each (λ x. p x ≡ false) xs
any_none p [] h = tt
any_none p (x ∷ xs) h = by (p x) refl h (any_none p xs)
  where
    by : (b : Bool) → p x ≡ b → list_any p (x ∷ xs) ≡ false → (list_any p xs ≡ false → Each (λ x. p x ≡ false) xs) → Each (λ x. p x ≡ false) (x ∷ xs)
    by true t h below = absurd (let k : true ≡ false = rw t at h in cc)
    by false t h below = (t, below (rw t at h))

any_some : {X : Type 0} (p : X → Bool) (xs : List X) → list_any p xs ≡ true → Each (λ x. p x ≡ false) xs → ⊥
any_some p [] h e = absurd (cc)
any_some p (x ∷ xs) h e = any_some p xs (rw e.0 at h) e.1

module _ (tables : Tables) (stmt : Stmt) (order : List By) (rows : List Row) (key : List Cell) (is : IsGrouped tables stmt order rows) (long : length key ≡ length (out-Stmt stmt).by) where
  pub group_picked : list_any is_null key ≡ false → group_at order key rows ≡ picked tables (out-Stmt stmt).table (out-Stmt stmt).by key (out-Stmt stmt).condition
  group_picked none =
      let by = (out-Stmt stmt).by in
      let all = picked tables (out-Stmt stmt).table [] [] (out-Stmt stmt).condition in
      ap (group_at order key) is.1
      ∙ sorted_keeps (cells_order_total order) (λ (r : Row). cells_by order r.cells) key all
      ∙ ap (λ o. group_at o key all) is.0
      ∙ fused (λ r. is_eq (stands_at (ascending by) key r)) (passes [] [] (out-Stmt stmt).condition) (passes by key (out-Stmt stmt).condition)
      (λ r. ap (λ b. b && meets (out-Stmt stmt).condition r.cells) (sym (key_order by key r.cells long (any_none is_null key none)))) _

  pub null_picked : list_any is_null key ≡ true → [] ≡ picked tables (out-Stmt stmt).table (out-Stmt stmt).by key (out-Stmt stmt).condition
  null_picked some =
      sym (none_pass (passes (out-Stmt stmt).by key (out-Stmt stmt).condition)
      (λ r. ap (λ b. b && meets (out-Stmt stmt).condition r.cells) (null_order (out-Stmt stmt).by key r.cells long (any_some is_null key some))) _)
