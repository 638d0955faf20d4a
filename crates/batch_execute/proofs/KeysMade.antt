-- How keys are made of rows that stand in an order.
use Rattle.std.proofs.Common.{◌≡◌, List, [], ◌∷◌, ◌++◌, map, Option, Some, None, Bool, true, false, cond, sym, ap, ◌∙◌, append_assoc, append-nil}
use Rattle.std.specs.Prelude.{if◌then◌else◌}
use Rattle.std.proofs.lemmas.Simd.{map-map}
use Rattle.pg_base.specs.declared.cell.Cell.{Cell}
use Rattle.rel_model.specs.declared.window.By.{By}
use Rattle.rel_model.specs.Ordered.{sorted_by}
use Rattle.rel_model.proofs.Sorting.{sorted_by-map}
use Rattle.stmt_tree.specs.declared.found.Key.{Key}
use Rattle.stmt_tree.specs.declared.found.RowTree.{RowTree}
use Rattle.batch_execute.specs.Keys.{key_of, tree_cells, stands_before, is_new, firsts, keys_in}

-- one row further
pub firsts_on : (order : List By) (last : Option (List Cell)) (c : List Cell) (cells : List (List Cell)) (keys : List Key) →
    (keys ++ (if is_new order last c then key_of c ∷ [] else [])) ++ map key_of (firsts order (Some c) cells) ≡ keys ++ map key_of (firsts order last (c ∷ cells))
firsts_on order last c cells keys = by (is_new order last c) where
  by : (b : Bool) → (keys ++ (cond b (key_of c ∷ []) [])) ++ map key_of (firsts order (Some c) cells) ≡ keys ++ map key_of (cond b (c ∷ firsts order (Some c) cells) (firsts order (Some c) cells))
  by true = append_assoc keys (key_of c ∷ []) (map key_of (firsts order (Some c) cells))
  by false = ap (λ l. l ++ map key_of (firsts order (Some c) cells)) (append-nil keys)

-- those of rows that are put in the order
pub sorted_keys : {X : Type 0} (now : X → RowTree) (order : List By) (xs : List X) →
    map key_of (firsts order None (map (λ x. tree_cells order (now x)) (sorted_by (λ a b. stands_before order (tree_cells order (now a)) (tree_cells order (now b))) xs)))
    ≡ keys_in order (map now xs)
sorted_keys now order xs =
    ap (λ l. map key_of (firsts order None l)) (sym (sorted_by-map (λ x. tree_cells order (now x)) (stands_before order) xs))
    ∙ ap (λ l. map key_of (firsts order None (sorted_by (stands_before order) l))) (sym (map-map (tree_cells order) now xs))
